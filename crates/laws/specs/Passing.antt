-- How many of the numbers below n pass a test.
--     passing t n                    how many of 0, 1, .., n - 1 pass t
--     passing_most, passing_same     at most n; equal tests have equal numbers
--     passing_wider                  a test that more numbers pass has no smaller number
--     passing_all, passing_none      where each passes, there are n; where none does, 0
--     passing_more, passing_one      one number more passes: one more; just one number passes
--     passing_some, some_passing     one passes: at least one; and back
-- Assumes nothing.
use Rattle.std.specs.Prelude.{◌≡◌, refl, Bool, true, false, cond, ◌||◌, ℕ, zero, suc, ◌+◌, ◌≤◌, ◌<◌, eqb}
use Rattle.std.proofs.Common.{sym, ap, ◌∙◌, not-suc-le-zero, arith, eqb-true, eq-eqb, ne_eqb}
use Rattle.std.proofs.Math.Bool.{or-false, or-true}
use Rattle.std.proofs.lemmas.Bool.{eqb-false}
use Rattle.model.specs.Words.{some_below}
use Rattle.laws.specs.Tests.{by_cases, below_suc, some_not}

pub eqb_swap : (a b : ℕ) → eqb a b ≡ eqb b a
eqb_swap a b =
    by_cases (eqb b a)
    (λ (y : eqb b a ≡ true). rw y (eq-eqb a b (sym (eqb-true b a y))))
    (λ (z : eqb b a ≡ false). rw z (ne_eqb a b (λ e. eqb-false b a z (sym e))))

-- how many of 0, 1, .., n - 1 pass the test
unfoldable pub passing : (ℕ → Bool) → ℕ → ℕ
passing t zero = 0
passing t (suc n) = passing t n + cond (t n) 1 0

pub passing_most : (t : ℕ → Bool) (n : ℕ) → passing t n ≤ n
unfolding passing
passing_most t zero = omega arith
passing_most t (suc n) =
    by_cases (t n)
    (λ (y : t n ≡ true). rw y (omega (arith, passing_most t n)))
    (λ (z : t n ≡ false). rw z (omega (arith, passing_most t n)))

pub passing_same : (t u : ℕ → Bool) (n : ℕ) → ((d : ℕ) → d < n → t d ≡ u d) → passing t n ≡ passing u n
unfolding passing
passing_same t u zero h = refl
passing_same t u (suc n) h = rw (passing_same t u n (λ d l. h d (omega arith)), h n (omega arith))

-- whatever passes t passes u
pub passing_wider : (t u : ℕ → Bool) (n : ℕ) → ((d : ℕ) → d < n → t d ≡ true → u d ≡ true) → passing t n ≤ passing u n
unfolding passing
passing_wider t u zero h = omega arith
passing_wider t u (suc n) h =
    let before = passing_wider t u n (λ d l. h d (omega arith)) in
    by_cases (t n)
    (λ (y : t n ≡ true). rw (y, h n (omega arith) y) (omega arith))
    (λ (z : t n ≡ false). rw z (omega arith))

pub passing_all : (t : ℕ → Bool) (n : ℕ) → ((d : ℕ) → d < n → t d ≡ true) → passing t n ≡ n
unfolding passing
passing_all t zero h = refl
passing_all t (suc n) h = rw (passing_all t n (λ d l. h d (omega arith)), h n (omega arith)) (omega arith)

pub passing_none : (t : ℕ → Bool) (n : ℕ) → ((d : ℕ) → d < n → t d ≡ false) → passing t n ≡ 0
unfolding passing
passing_none t zero h = refl
passing_none t (suc n) h = rw (passing_none t n (λ d l. h d (omega arith)), h n (omega arith)) (omega arith)

-- u is t with e besides
pub passing_more : (t u : ℕ → Bool) (n e : ℕ) → e < n → t e ≡ false → ((d : ℕ) → d < n → u d ≡ (t d || eqb d e))
    → passing u n ≡ suc (passing t n)
unfolding passing
passing_more t u zero e l f h = absurd (not-suc-le-zero l)
passing_more t u (suc n) e l f h =
    below_suc e n l
    (λ (k : e < n).
    let same : u n ≡ t n = rw (h n (omega arith), ne_eqb n e (λ x. omega arith)) (or-false (t n)) in
    rw (passing_more t u n e k f (λ d b. h d (omega arith)), same) (omega arith))
    (λ (x : e ≡ n).
    let now : u n ≡ true = rw (h n (omega arith), eq-eqb n e (sym x)) (or-true (t n)) in
    let was : t n ≡ false = rw x at f in
    let same = passing_same u t n (λ d b. h d (omega arith) ∙ rw (ne_eqb d e (λ y. omega arith)) (or-false (t d))) in
    rw (now, was, same) (omega arith))

pub passing_one : (e n : ℕ) → e < n → passing (eqb e) n ≡ 1
passing_one e n l =
    passing_more (λ _. false) (eqb e) n e l refl (λ d _. eqb_swap e d)
    ∙ ap suc (passing_none (λ _. false) n (λ _ _. refl))

pub passing_some : (t : ℕ → Bool) (n e : ℕ) → e < n → t e ≡ true → 1 ≤ passing t n
passing_some t n e l y =
    rw (passing_one e n l) at
    (passing_wider (eqb e) t n (λ d _ same. let x : e ≡ d = eqb-true e d same in rw x at y))

pub some_passing : (t : ℕ → Bool) (n : ℕ) → 1 ≤ passing t n → some_below t n ≡ true
some_passing t n h =
    by_cases (some_below t n) (λ y. y)
    (λ z. absurd (omega (arith, passing_none t n (λ d l. some_not t n d z l))))
