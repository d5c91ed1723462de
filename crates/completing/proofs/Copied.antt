-- The start of one list written over the start of another.
--     copied_none, copied_more       no entry; one entry more
-- Assumes nothing.
use mathlib.Core.Path.{◌≡◌, refl, ap}
use mathlib.Core.List.{List, [], ◌∷◌}
use Prim.Native.Nat.{ℕ, zero, suc, ◌+◌, ◌<◌}
use native.Mathlib.Numerals.{add-one}
use native.Mathlib.Omega.{arith}
use lib.ListN.{length, get_or, take, set}
use Rattle.model.specs.Words.{over}

copied_suc : (i : ℕ) (a b : List ℕ) → i < length a → i < length b
    → set (over (take i a) b) i (get_or a i 0) ≡ over (take (suc i) a) b
unfolding over
copied_suc i [] b in_a in_b = absurd (omega (arith, in_a))
copied_suc i (x ∷ a) [] in_a in_b = absurd (omega (arith, in_b))
copied_suc zero (x ∷ a) (y ∷ b) in_a in_b = refl
copied_suc (suc i) (x ∷ a) (y ∷ b) in_a in_b = ap (λ (l : List ℕ). x ∷ l) (copied_suc i a b (omega (arith, in_a)) (omega (arith, in_b)))

pub copied_more : (i : ℕ) (a b : List ℕ) → i < length a → i < length b
    → set (over (take i a) b) i (get_or a i 0) ≡ over (take (i + 1) a) b
copied_more i a b in_a in_b = rw (add-one i) (copied_suc i a b in_a in_b)

pub copied_none : (b : List ℕ) → b ≡ over [] b
unfolding over
copied_none b = refl
