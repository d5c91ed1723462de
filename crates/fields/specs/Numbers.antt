-- A number's text: its digits as the kit's `io` writes them, and how many there are.
--     digits_are                         the last k digits are those of `io`
--     fewest_are                         `digits_of` is the fewest digits that hold a number
--     decimal_is                         a number's text is its fewest digits, for every number
--     decimal_most                       a number below ten to a power has at most as many digits
--     decimal_wide                       a number of 32 bits has at most ten
-- Assumes nothing.
use Rattle.std.specs.Prelude.{◌≡◌, refl, false, ℕ, zero, suc, ◌+◌, ◌-◌, ◌/◌, ◌%◌, ◌^◌, ◌≤◌, ◌<◌, length}
use Rattle.std.proofs.Common.{mod-lt, pow-suc, length-append}
use Rattle.std.proofs.Math.Nat.{pow-le-pow_right}
use native.Mathlib.Omega.{arith}
use Rattle.std.proofs.Math.Dec.{ltb}
use borrow.Author.Tests.{lt-ltb, le-ltb, ltb-true, ltb-false}
use Rattle.io.specs.Digits.{last_digits, IsDigitCount}
use Rattle.model.specs.Words.{first}
use Rattle.model.specs.Program.{last_decimal_digits, digits_of, decimal}
use Rattle.laws.specs.Tests.{by_cases, first_within, first_is}

pub digits_are : (k x : ℕ) → last_decimal_digits k x ≡ last_digits 10 k x
unfolding last_decimal_digits
digits_are zero x = refl
digits_are (suc k) x = rw (lt-ltb (x % 10) 10 (mod-lt x (omega arith)), digits_are k (x / 10))

-- a number is below ten to its power
below_power : (n : ℕ) → n < 10 ^ n
below_power zero = omega arith
below_power (suc n) = rw (pow-suc 10 n) (omega (arith, below_power n))

module _ {x r : ℕ} (f : IsDigitCount 10 1 x r) where
  -- fewer digits do not hold it
  fewer_fail : (q : ℕ) → 1 ≤ q → q < r → ltb x (10 ^ q) ≡ false
  fewer_fail q h l =
      let power : 10 ^ q ≤ 10 ^ (r - 1) = pow-le-pow_right (omega arith) (omega arith) in
      le-ltb x (10 ^ q) (omega (arith, f.2 (omega arith)))

  -- more digits than one are no more than the number
  several_within : 1 < r → r ≤ x
  several_within h = omega (arith, below_power (r - 1), f.2 h)

  pub fewest_are : digits_of x ≡ r
  unfolding digits_of first
  fewest_are =
      by_cases (ltb r (1 + x))
      (λ y.
      first_is (λ k. ltb x (10 ^ k)) x 1 r f.0 (ltb-true r (1 + x) y) (lt-ltb x (10 ^ r) f.1) fewer_fail)
      (λ n.
      let beyond = ltb-false r (1 + x) n in
      let one : r ≡ 1 =
      by_cases (ltb 1 r)
      (λ y. absurd (omega (arith, several_within (ltb-true 1 r y))))
      (λ z. omega (arith, ltb-false 1 r z)) in
      let none : x ≡ 0 = omega arith in
      rw (none, one))

  pub decimal_is : decimal x ≡ last_digits 10 r x
  unfolding decimal
  decimal_is = rw fewest_are (digits_are r x)

digits_length : (k x : ℕ) → length (last_decimal_digits k x) ≡ k
unfolding last_decimal_digits
digits_length zero x = refl
digits_length (suc k) x = rw (length-append, digits_length k (x / 10)) (omega arith)

-- a number below ten to a power has at most as many digits
pub decimal_most : (q x : ℕ) → 1 ≤ q → x < 10 ^ q → length (decimal x) ≤ q
unfolding decimal digits_of
decimal_most q x h l =
    rw (digits_length (digits_of x) x) (first_within (λ k. ltb x (10 ^ k)) x 1 q h (lt-ltb x (10 ^ q) l))

-- a number of 32 bits has at most ten digits
pub decimal_wide : (x : ℕ) → x < 2 ^ 32 → length (decimal x) ≤ 10
decimal_wide x h = decimal_most 10 x (omega arith) (omega arith)
