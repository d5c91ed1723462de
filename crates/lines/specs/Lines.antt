-- The line of a search, from what the search promises.
--     shortlist_length       a search that is accepted returns k places
--     answer_text_is_line            the answer of a search with the slices that it leaves makes that search's line
--     one_accepted, one_refused      the line of one search where it is accepted, and where it is refused
--     told_accepted                  a verdict that is told by 0 accepts
--     lines_next, lines_four         one line more; all four
-- Assumes nothing.
use Rattle.std.specs.Prelude.{◌≡◌, List, ◌++◌, map, ℕ, zero, suc, ◌+◌, ◌≤◌, length}
use Rattle.std.proofs.Common.{sym, ap, ◌∙◌, append_assoc, add-one}
use Rattle.std.proofs.Math.ListN.{length-map}
use borrow.Author.Tests.{eq-eqb, ne_eqb}
use Rattle.model.specs.Words.{over}
use Rattle.model.specs.Given.{Poses, Query}
use Rattle.model.specs.Refusals.{Verdict, accepted, refused, Lent, poses_of, query_of, search_verdict}
use Rattle.model.specs.Answers.{Place, Found, found, found_after, told, search_of, answering, answer, written, slices, slices_with}
use Rattle.model.specs.Program.{answer_line, search_line, four_lines, printing}
use Rattle.laws.specs.Verdicts.{accepted≢refused, told_zero, by_verdict}
use Rattle.laws.specs.Accepted.{Valid}
use Rattle.demands.specs.Promise.{Owed}
use Rattle.demands.specs.Promised.{promised}
use Rattle.answers.specs.declared.Answer.{Answer}
use Rattle.answering.specs.Answered.{Searched}
use Rattle.admission.specs.Shapes.{accepts, numbered_search}
use Rattle.answering.specs.Promises.{accepted_is_zero}
use Rattle.listing.specs.Clauses.{places_at}
use Rattle.listing.specs.Places.{places_are}
use Rattle.running.specs.Clauses.{search_at}
use Rattle.wording.specs.Clauses.{name_at, answer_text}
use Rattle.lines.specs.Clauses.{line_or, one_line, lines_to}

-- ---- the shortlist
-- what each of the four owes, by its number
owed_at : (which : ℕ) (s : Poses) (q : Query) (k : ℕ) → Valid s → 1 ≤ k → k ≤ s.n → Owed s q k (search_at which s q)
owed_at zero s q k v some most = (promised s v q k some most).ta
owed_at (suc zero) s q k v some most = (promised s v q k some most).bpa
owed_at (suc (suc zero)) s q k v some most = (promised s v q k some most).bpa2
owed_at (suc (suc (suc which))) s q k v some most = (promised s v q k some most).nra

module _ (which : ℕ) (l : Lent) (e : search_verdict l ≡ accepted) where
  -- what the search of the number has found
  abbrev founds : Found
  founds = found (poses_of l) l.k (search_of (search_at which) l)

  pub shortlist_length : length founds.shortlist ≡ l.k
  unfolding found found_after search_of poses_of
  shortlist_length =
      let h = accepts l e in
      rw length-map (owed_at which (poses_of l) (query_of l) l.k h.lists_valid h.k_least h.k_most).size

-- ---- the line of an answer
module _ (which : ℕ) {l : Lent} {a : Answer} {picks lows highs tally work : List ℕ}
    (x : Searched (search_at which) l a picks lows highs tally work) where
  accepted_line : search_verdict l ≡ accepted → answer_text which a (places_at picks lows highs l.k) ≡ one_line which l
  unfolding answer_text one_line line_or search_line answer_line answer answering slices slices_with written
  accepted_line e =
      let none : a.number ≡ 0 = (accepted_is_zero x).1 e in
      let shown = (founds which l e).shortlist in
      let first : picks ≡ over (map (λ (p : Place). p.item) shown) l.picks = rw e at x.picks_are in
      let second : lows ≡ over (map (λ (p : Place). p.low) shown) l.lows = rw e at x.lows_are in
      let third : highs ≡ over (map (λ (p : Place). p.high) shown) l.highs = rw e at x.highs_are in
      let places : places_at picks lows highs l.k ≡ shown =
      places_are shown l.k l.picks l.lows l.highs (shortlist_length which l e) first second third in
      rw (eq-eqb a.number 0 none, places, x.rows_are, x.sorted_are, x.direct_are, x.random_are, e)

  refused_text_is_line : {y i p : ℕ} → search_verdict l ≡ refused y i p
      → answer_text which a (places_at picks lows highs l.k) ≡ one_line which l
  unfolding answer_text one_line line_or answer answering
  refused_text_is_line {y} {i} {p} e =
      let number : a.number ≡ y = rw e at x.number_is in
      let list : a.list ≡ i = rw e at x.list_is in
      let position : a.position ≡ p = rw e at x.position_is in
      let some = ne_eqb a.number 0 (λ none. accepted≢refused (sym ((accepted_is_zero x).0 none) ∙ e)) in
      rw (some, number, list, position, e)

  pub answer_text_is_line : answer_text which a (places_at picks lows highs l.k) ≡ one_line which l
  answer_text_is_line = by_verdict (search_verdict l) accepted_line (λ y i p e. refused_text_is_line e)

-- ---- one line, and all four
module _ (l : Lent) where
  pub one_accepted : (which : ℕ) → search_verdict l ≡ accepted → one_line which l ≡ search_line (name_at which) (search_at which) l
  unfolding one_line line_or
  one_accepted which e = rw e

  -- the only line is that of the refusal, whichever search is asked
  pub one_refused : (which : ℕ) → ((told (search_verdict l)).number ≡ 0 → ⊥) → one_line which l ≡ printing (search_verdict l) l
  unfolding one_line line_or printing
  one_refused which some =
      by_verdict (search_verdict l)
      (λ e. absurd (some (ap (λ (v : Verdict). (told v).number) e)))
      (λ y i p e. rw e)

  pub told_accepted : (told (search_verdict l)).number ≡ 0 → search_verdict l ≡ accepted
  told_accepted none = told_zero (search_verdict l) (numbered_search l) none

  pub lines_next : (which : ℕ) → search_verdict l ≡ accepted → lines_to which l ++ one_line which l ≡ lines_to (which + 1) l
  unfolding lines_to
  lines_next which e = rw (add-one which, one_accepted which e)

  pub lines_four : search_verdict l ≡ accepted → lines_to 4 l ≡ printing (search_verdict l) l
  unfolding lines_to printing four_lines name_at
  lines_four e = rw e (simp append_assoc)
