-- What the four searches promise to whoever calls them, and nothing of their inside.
--     answer_one_to_one      an answer is its seven numbers
--     search_settles         any two answers that meet a search's contract coincide, all five slices included
--     results_settle         and so do any two results, whose answers they are
--     accepted_is_zero       the number is 0 exactly where the model accepts
--     Finds, accepted_finds  what a call that is accepted tells and leaves in the slices of shortlist and tally
--     accepted_call          and then k is one of 1 to n and the lists are valid
-- Assumes nothing.
use Rattle.std.specs.Prelude.{◌≡◌, refl, List, map, ◌↔◌, ℕ}
use Rattle.std.proofs.Common.{sym, ◌∙◌}
use Rattle.model.specs.Given.{Poses, Query}
use Rattle.model.specs.Searches.{Search, kept, rows}
use Rattle.model.specs.Words.{over}
use Rattle.model.specs.Accesses.{sorted, direct, random, made, tally}
use Rattle.model.specs.Refusals.{Verdict, accepted, refused, Lent, poses_of, query_of, search_verdict}
use Rattle.model.specs.Answers.{Found, found, found_after, told, search_of, answer, answering, written, slices, slices_with}
use Rattle.laws.specs.Verdicts.{told_zero}
use Rattle.std.specs.Prelude.{Result}
use Rattle.poses.specs.declared.refusals.Refusal.{Refusal}
use Rattle.meeting.specs.declared.Found.{Found as FoundValue}
use Rattle.answers.specs.declared.Answer.{Answer}
use Rattle.answers.specs.Clauses.{answer_of, answer_once}
use Rattle.meeting.specs.Clauses.{Ran}
use Rattle.answering.specs.Answered.{Searched}
use Rattle.admission.specs.Shapes.{numbered_search, Accepts, accepts}
use Rattle.answering.specs.Shortlists.{items_of, lows_of, highs_of}

-- an answer is its seven numbers
pub answer_one_to_one : (a b : Answer) → a.number ≡ b.number → a.list ≡ b.list → a.position ≡ b.position → a.rows ≡ b.rows
    → a.sorted.0 ≡ b.sorted.0 → a.direct.0 ≡ b.direct.0 → a.random.0 ≡ b.random.0 → a ≡ b
answer_one_to_one a b same_number same_list same_position same_rows same_sorted same_direct same_random =
    λ j. record {
      number = same_number j;
      list = same_list j;
      position = same_position j;
      rows = same_rows j;
      sorted = record { 0 = same_sorted j };
      direct = record { 0 = same_direct j };
      random = record { 0 = same_random j };
    }

-- an answer's number is its verdict's
number_of : (v : Verdict) (f : Found) → (answering v f).number ≡ (told v).number
unfolding answering
number_of accepted f = refl
number_of (refused x i p) f = refl

number_none : (r : Poses → Query → Search) (l : Lent) → (answer r l).number ≡ 0 → search_verdict l ≡ accepted
unfolding answer
number_none r l none = told_zero (search_verdict l) (numbered_search l)
    (sym (number_of (search_verdict l) (found (poses_of l) l.k (search_of r l))) ∙ none)

none_number : (r : Poses → Query → Search) (l : Lent) → search_verdict l ≡ accepted → (answer r l).number ≡ 0
unfolding answer answering
none_number r l e = rw e

-- The results of a call: the answer, and the five slices as the search leaves them
pub record Same (a b : Answer) (picks lows highs tally work picks' lows' highs' tally' work' : List ℕ) : Type 0 where
  pub answers : a ≡ b
  pub picks_same : picks ≡ picks'
  pub lows_same : lows ≡ lows'
  pub highs_same : highs ≡ highs'
  pub tally_same : tally ≡ tally'
  pub work_same : work ≡ work'

pub search_settles : {r : Poses → Query → Search} {l : Lent} {a b : Answer} {picks lows highs tally work picks' lows' highs' tally' work' : List ℕ}
    → Searched r l a picks lows highs tally work → Searched r l b picks' lows' highs' tally' work'
    → Same a b picks lows highs tally work picks' lows' highs' tally' work'
search_settles {a = a} {b = b} x y =
    record {
      answers =
          answer_one_to_one a b (x.number_is ∙ sym y.number_is) (x.list_is ∙ sym y.list_is) (x.position_is ∙ sym y.position_is)
          (x.rows_are ∙ sym y.rows_are) (x.sorted_are ∙ sym y.sorted_are) (x.direct_are ∙ sym y.direct_are)
          (x.random_are ∙ sym y.random_are);
      picks_same = x.picks_are ∙ sym y.picks_are;
      lows_same = x.lows_are ∙ sym y.lows_are;
      highs_same = x.highs_are ∙ sym y.highs_are;
      tally_same = x.tally_is ∙ sym y.tally_is;
      work_same = x.work_is ∙ sym y.work_is;
    }

-- and so do any two results, whose answers they are
pub results_settle : {r : Poses → Query → Search} {l : Lent} {x y : Result FoundValue Refusal}
    {picks lows highs tally work picks' lows' highs' tally' work' : List ℕ}
    → Searched r l (answer_of x) picks lows highs tally work → Searched r l (answer_of y) picks' lows' highs' tally' work'
    → (x ≡ y) × Same (answer_of x) (answer_of y) picks lows highs tally work picks' lows' highs' tally' work'
results_settle {x = x} {y = y} p q = let same = search_settles p q in (answer_once x y same.answers, same)

-- the number is 0 exactly where the model accepts
pub accepted_is_zero : {r : Poses → Query → Search} {l : Lent} {a : Answer} {picks lows highs tally work : List ℕ}
    → Searched r l a picks lows highs tally work
    → (a.number ≡ 0) ↔ (search_verdict l ≡ accepted)
accepted_is_zero {r} {l} x = (λ none. number_none r l (sym x.number_is ∙ none), λ e. x.number_is ∙ none_number r l e)

pub accepted_call : {r : Poses → Query → Search} {l : Lent} {a : Answer} {picks lows highs tally work : List ℕ}
    → Searched r l a picks lows highs tally work
    → a.number ≡ 0 → Accepts l
accepted_call {l = l} x none = accepts l ((accepted_is_zero x).0 none)

-- What a call that is accepted tells and leaves in the slices of shortlist and tally
pub record Finds (s : Poses) (k : ℕ) (r : Search) (l : Lent) (a : Answer) (picks lows highs marks : List ℕ) : Type 0 where
  pub rows_are : a.rows ≡ rows s k r
  pub sorted_are : a.sorted.0 ≡ made sorted (r.accesses (rows s k r))
  pub direct_are : a.direct.0 ≡ made direct (r.accesses (rows s k r))
  pub random_are : a.random.0 ≡ made random (r.accesses (rows s k r))
  pub slices_are : Ran s k r (rows s k r) l.picks l.lows l.highs l.tally picks lows highs marks

pub accepted_finds : {r : Poses → Query → Search} {l : Lent} {a : Answer} {picks lows highs marks work : List ℕ}
    → Searched r l a picks lows highs marks work
    → a.number ≡ 0 → Finds (poses_of l) l.k (r (poses_of l) (query_of l)) l a picks lows highs marks
unfolding answer answering slices slices_with written found found_after search_of
accepted_finds {r} {l} {a} {picks} {lows} {highs} {marks} x none =
    let e = (accepted_is_zero x).0 none in
    let by = r (poses_of l) (query_of l) in
    let p = rows (poses_of l) l.k by in
    let best = kept (poses_of l) l.k by p in
    let first : (slices r l).picks ≡ over best l.picks = rw (e, items_of by p best) in
    let second : (slices r l).lows ≡ over (map (by.low p) best) l.lows = rw (e, lows_of by p best) in
    let third : (slices r l).highs ≡ over (map (by.high p) best) l.highs = rw (e, highs_of by p best) in
    let last : (slices r l).tally ≡ over (tally (poses_of l) (by.accesses p)) l.tally = rw e in
    let many : (answer r l).rows ≡ p = rw e in
    let first_kind : (answer r l).sorted ≡ made sorted (by.accesses p) = rw e in
    let second_kind : (answer r l).direct ≡ made direct (by.accesses p) = rw e in
    let third_kind : (answer r l).random ≡ made random (by.accesses p) = rw e in
    record {
      rows_are = x.rows_are ∙ many;
      sorted_are = x.sorted_are ∙ first_kind;
      direct_are = x.direct_are ∙ second_kind;
      random_are = x.random_are ∙ third_kind;
      slices_are =
          record {
            shortlist = record { picks_are = x.picks_are ∙ first; lows_are = x.lows_are ∙ second; highs_are = x.highs_are ∙ third };
            tally_is = x.tally_is ∙ last;
          };
    }
