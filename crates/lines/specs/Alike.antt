-- What a search answers does not depend on what stands in the slices to be written: their lengths alone are tested.
--     Alike                  two calls that differ at most in what stands in the slices to be written
--     alike_itself, alike_kept       a call with itself; with other slices of the same lengths
--     alike_verdict          they have one verdict
--     alike_answer           and one answer
--     alike_one, alike_printing      and so the lines of either are those of the other
-- Assumes nothing.
use Rattle.std.specs.Prelude.{◌≡◌, List, ◌++◌, ℕ, length}
use Rattle.std.proofs.Math.Path.{refl, ap}
use Rattle.std.proofs.Common.{sym, ◌∙◌}
use Rattle.model.specs.Given.{Poses, Query}
use Rattle.model.specs.Searches.{Search, TA, BPA, BPA2, NRA}
use Rattle.model.specs.Refusals.{Verdict, accepted, refused, ◌then◌, Lent, poses_of, query_of, weight_of, in_lists, search_shape, search_verdict}
use Rattle.model.specs.Answers.{found, search_of, answering, answer}
use Rattle.model.specs.Program.{name_ta, name_bpa, name_bpa2, name_nra, answer_line, search_line, four_lines, printing}
use Rattle.admission.specs.Clauses.{lent_with, shape_is}
use Rattle.running.specs.Clauses.{search_at}
use Rattle.wording.specs.Clauses.{name_at}
use Rattle.lines.specs.Clauses.{line_or, one_line}

-- Two calls that differ at most in what stands in the slices to be written
pub record Alike (a b : Lent) : Type 0 where
  pub m_same : a.m ≡ b.m
  pub n_same : a.n ≡ b.n
  pub rule_same : a.rule ≡ b.rule
  pub k_same : a.k ≡ b.k
  pub weights_same : a.weights ≡ b.weights
  pub items_same : a.items ≡ b.items
  pub scores_same : a.scores ≡ b.scores
  pub picks_long : length a.picks ≡ length b.picks
  pub lows_long : length a.lows ≡ length b.lows
  pub highs_long : length a.highs ≡ length b.highs
  pub tally_long : length a.tally ≡ length b.tally
  pub work_long : length a.work ≡ length b.work

pub alike_itself : (a : Lent) → Alike a a
alike_itself a =
    record {
      m_same = refl;
      n_same = refl;
      rule_same = refl;
      k_same = refl;
      weights_same = refl;
      items_same = refl;
      scores_same = refl;
      picks_long = refl;
      lows_long = refl;
      highs_long = refl;
      tally_long = refl;
      work_long = refl;
    }

-- other slices of the same lengths
pub alike_kept : {a b : Lent} {picks lows highs tally work : List ℕ} → Alike a b
    → length picks ≡ length a.picks → length lows ≡ length a.lows → length highs ≡ length a.highs
    → length tally ≡ length a.tally → length work ≡ length a.work
    → Alike (lent_with a.m a.n a.rule a.k a.weights a.items a.scores picks lows highs tally work) b
alike_kept x picks lows highs tally work =
    record {
      m_same = x.m_same;
      n_same = x.n_same;
      rule_same = x.rule_same;
      k_same = x.k_same;
      weights_same = x.weights_same;
      items_same = x.items_same;
      scores_same = x.scores_same;
      picks_long = picks ∙ x.picks_long;
      lows_long = lows ∙ x.lows_long;
      highs_long = highs ∙ x.highs_long;
      tally_long = tally ∙ x.tally_long;
      work_long = work ∙ x.work_long;
    }

module _ {a b : Lent} (x : Alike a b) where
  alike_poses : poses_of a ≡ poses_of b
  unfolding poses_of
  alike_poses = λ j. record { m = x.m_same j; n = x.n_same j; items = x.items_same j; scores = x.scores_same j }

  alike_query : query_of a ≡ query_of b
  unfolding query_of
  alike_query = λ j. record { rule = x.rule_same j; weight = weight_of (x.weights_same j) }

  alike_shape : search_shape a ≡ search_shape b
  alike_shape =
      shape_is a
      ∙ rw (
        x.m_same,
        x.n_same,
        x.rule_same,
        x.k_same,
        x.weights_same,
        x.items_same,
        x.scores_same,
        x.picks_long,
        x.lows_long,
        x.highs_long,
        x.tally_long,
        x.work_long,
      )
      (sym (shape_is b))

  pub alike_verdict : search_verdict a ≡ search_verdict b
  unfolding search_verdict
  alike_verdict = λ j. alike_shape j then in_lists (alike_poses j)

  pub alike_answer : (r : Poses → Query → Search) → answer r a ≡ answer r b
  unfolding answer search_of
  alike_answer r =
      λ j. answering (alike_verdict j) (found (alike_poses j) (x.k_same j) (r (alike_poses j) (alike_query j)))

  alike_line : (name : List ℕ) (r : Poses → Query → Search) → search_line name r a ≡ search_line name r b
  unfolding search_line
  alike_line name r = ap (answer_line name) (alike_answer r)

  pub alike_one : (which : ℕ) → one_line which a ≡ one_line which b
  unfolding one_line
  alike_one which = λ j. line_or (alike_verdict j) (alike_line (name_at which) (search_at which) j)

  alike_four : four_lines a ≡ four_lines b
  unfolding four_lines
  alike_four = λ j. alike_line name_ta TA j ++ alike_line name_bpa BPA j ++ alike_line name_bpa2 BPA2 j ++ alike_line name_nra NRA j

  printing_same : (v : Verdict) → printing v a ≡ printing v b
  unfolding printing
  printing_same accepted = alike_four
  printing_same (refused number i p) = refl

  pub alike_printing : printing (search_verdict a) a ≡ printing (search_verdict b) b
  alike_printing = ap (λ (v : Verdict). printing v a) alike_verdict ∙ printing_same (search_verdict b)
