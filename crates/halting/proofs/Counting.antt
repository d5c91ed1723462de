-- Counting by adding a test as a number: 1 where it holds, else 0.
--     one_counted    with the n-th number tested too, how many of 0, 1, .., n pass
-- Assumes nothing.
use Rattle.std.specs.Prelude.{◌≡◌, refl, Bool, true, false, cond, ℕ, ◌+◌}
use native.Mathlib.Numerals.{add-one}
use mir.Val.{bool_byte}
use Rattle.laws.specs.Passing.{passing}

byte_cond : (b : Bool) → bool_byte b ≡ cond b 1 0
byte_cond true = refl
byte_cond false = refl

pub one_counted : (t : ℕ → Bool) (n total r : ℕ) → total ≡ passing t n → r ≡ bool_byte (t n) → total + r ≡ passing t (n + 1)
unfolding passing
one_counted t n total r before now = rw (add-one n, before, now, byte_cond (t n))
