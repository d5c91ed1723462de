-- One number more, where one that passes a test is looked for.
--     found_here     it passes
--     found_before   it does not, so that what was found before stands
--     found_next     it passes or it does not
-- Assumes nothing.
use mathlib.Core.Path.{◌≡◌, ◌∙◌}
use mathlib.Core.Bool.{Bool, true, false, or-false, or-true}
use Prim.Native.Nat.{ℕ, ◌+◌}
use native.Mathlib.Numerals.{add-one}
use Rattle.model.specs.Words.{some_below}
use Rattle.laws.specs.Tests.{by_cases}

pub found_here : (t : ℕ → Bool) (q : ℕ) {after : Bool} → t q ≡ true → after ≡ true → after ≡ some_below t (q + 1)
unfolding some_below
found_here t q passes says = rw (add-one q, passes, or-true) says

pub found_before : (t : ℕ → Bool) (q : ℕ) {before after : Bool} → before ≡ some_below t q → t q ≡ false → after ≡ before
    → after ≡ some_below t (q + 1)
unfolding some_below
found_before t q so fails says = rw (add-one q, fails, or-false) (says ∙ so)

pub found_next : (t : ℕ → Bool) (q : ℕ) {before after : Bool} → before ≡ some_below t q → (t q ≡ true → after ≡ true)
    → (t q ≡ false → after ≡ before) → after ≡ some_below t (q + 1)
found_next t q so here elsewhere =
    by_cases (t q) (λ y. found_here t q y (here y)) (λ z. found_before t q so z (elsewhere z))
