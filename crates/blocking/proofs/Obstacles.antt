-- What the items asked tell of NRA's test, where none of them is in the way.
--     all_clear              no item is, met or not
--     clear_few              no more marks are above the bar than k: the test holds
--     clear_counted          else it goes by how many highs are above the bar
-- Assumes nothing.
use Rattle.std.specs.Prelude.{◌≡◌, true, List, ℕ, ◌≤◌, ◌<◌, eqb, leb, ltb, get_or}
use Rattle.std.proofs.Common.{sym, ◌∙◌, arith, eqb-true, ltb-false}
use Rattle.laws.specs.Tests.{by_cases, some_found}
use Rattle.meeting.specs.Clauses.{View}
use Rattle.halting.specs.Clauses.{Legible, Marked, Listed, Barred, in_first, mark_of, halts_of, passes_of, above_of, unmet_of, listed_reach}
use Rattle.halting.specs.Gathering.{listed_short, listed_reach_is}
use Rattle.halting.specs.Marks.{unmet_passes, halts_yes, halts_reach}

-- an item that is met is one of those listed, and the others have the row's threshold for their high
pub all_clear : {v : View} {p count : ℕ} {marks met : List ℕ} (bar : ℕ) → Legible v p → Marked v p marks → Listed v.n marks met count
    → ((j : ℕ) → j < count → passes_of v p bar (get_or met j 0) ≡ true) → (count < v.n → unmet_of v p ≤ bar)
    → (d : ℕ) → d < v.n → passes_of v p bar d ≡ true
unfolding in_first
all_clear {v} {p} {count} {marks} {met} bar w noted g clear unmet d hd =
    by_cases (ltb 0 (get_or marks d 0))
    (λ y.
    let found = some_found (λ j. eqb d (get_or met j 0)) count (g.met_are d hd ∙ y) in
    rw (eqb-true d (get_or met found.0 0) found.2) (clear found.0 found.1))
    (λ z.
    let none : get_or marks d 0 ≡ 0 = omega (arith, ltb-false 0 (get_or marks d 0) z) in
    let unmarked : mark_of v p d ≡ 0 = sym (noted.marks_are d hd) ∙ none in
    unmet_passes w bar d unmarked (unmet (listed_short g d hd none)))

module _ {v : View} {p count k bar : ℕ} {marks met : List ℕ} (w : Legible v p) (noted : Marked v p marks) (g : Listed v.n marks met count)
    (some : 1 ≤ k) (barred : Barred v.n k marks bar) (clear : (j : ℕ) → j < count → passes_of v p bar (get_or met j 0) ≡ true)
    (unmet : count < v.n → unmet_of v p ≤ bar) where
  pub clear_few : listed_reach count marks met bar ≤ k → halts_of v k p ≡ true
  clear_few few = halts_reach w noted k bar some barred (all_clear bar w noted g clear unmet) (omega (arith, listed_reach_is g bar))

  pub clear_counted : halts_of v k p ≡ leb (above_of v p bar) k
  clear_counted = halts_yes w noted k bar some barred (all_clear bar w noted g clear unmet)
