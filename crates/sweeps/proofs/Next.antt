-- One number more, where the greatest is kept.
--     GreatestOf             the greatest of the first q numbers
--     greatest_start         of none
--     greatest_here          the next is greater than those before it
--     greatest_before        it is not, so that what was greatest stands
--     greatest_next          it is or it is not
-- Assumes nothing.
use mathlib.Core.Path.{◌≡◌, sym, ◌∙◌}
use mathlib.Core.Bool.{true, false, or-false, or-true}
use mathlib.Core.List.{List}
use Prim.Native.Nat.{ℕ, ◌+◌, ◌≤◌, ◌<◌}
use native.Mathlib.Numerals.{add-one}
use native.Mathlib.Omega.{arith}
use lib.Dec.{ltb}
use lib.ListN.{get_or}
use borrow.Author.Tests.{ltb-true, ltb-false, lt-ltb, le-ltb}
use Rattle.model.specs.Words.{some_below}
use Rattle.laws.specs.Tests.{by_cases}

module _ (numbers : List ℕ) where
  abbrev pub GreatestOf : ℕ → ℕ → Type 0
  GreatestOf q most = (bar : ℕ) → ltb bar most ≡ some_below (λ p. ltb bar (get_or numbers p 0)) q

  pub greatest_start : GreatestOf 0 0
  unfolding some_below
  greatest_start bar = le-ltb bar 0 (omega arith)

  module _ (q : ℕ) {before : ℕ} (so : GreatestOf q before) where
    pub greatest_here : before < get_or numbers q 0 → GreatestOf (q + 1) (get_or numbers q 0)
    unfolding some_below
    greatest_here above bar =
        let next = get_or numbers q 0 in
        by_cases (ltb bar next)
        (λ (y : ltb bar next ≡ true). rw (add-one q, y, or-true))
        (λ (z : ltb bar next ≡ false).
        let least : before ≤ bar = omega (arith, ltb-false bar next z) in
        rw (add-one q, z, or-false) (sym (le-ltb bar before least) ∙ so bar))

    pub greatest_before : get_or numbers q 0 ≤ before → GreatestOf (q + 1) before
    unfolding some_below
    greatest_before below bar =
        let next = get_or numbers q 0 in
        by_cases (ltb bar next)
        (λ (y : ltb bar next ≡ true).
        rw (add-one q, y, or-true) (lt-ltb bar before (omega (arith, ltb-true bar next y))))
        (λ (z : ltb bar next ≡ false). rw (add-one q, z, or-false) (so bar))

    pub greatest_next : {after : ℕ} → (before < get_or numbers q 0 → after ≡ get_or numbers q 0)
        → (get_or numbers q 0 ≤ before → after ≡ before) → GreatestOf (q + 1) after
    greatest_next here elsewhere =
        by_cases (ltb before (get_or numbers q 0))
        (λ (y : ltb before (get_or numbers q 0) ≡ true).
        let above = ltb-true before (get_or numbers q 0) y in
        rw (here above) (greatest_here above))
        (λ (z : ltb before (get_or numbers q 0) ≡ false).
        let below = ltb-false before (get_or numbers q 0) z in
        rw (elsewhere below) (greatest_before below))
