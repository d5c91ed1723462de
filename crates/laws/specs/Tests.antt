-- Laws of the searches through numbers: `first`, `some_below`, `every_below`.
--     by_cases               a test is true or false, with its equation
--     or_no, and_yes         both parts of an `||` that is false, of an `&&` that is true
--     ltb_not_leb            b < a is that a ≤ b fails
--     below_suc              what is below suc n is below n or is n
--     some_hit, some_none    `some_below` from its parts
--     some_found, some_not   what `some_below` tells: where it is true, the number that passes; where it is false, that none does
--     every_all, every_at    `every_below` from its parts, and back
--     some_same, every_same  two tests that agree
--     first_most             `first` goes no further than p + f
--     first_passes           where it stops before that, the test passes there
--     first_skips            the test fails at each number that it has passed
--     first_same                 two tests that agree
--     first_within, first_is     it goes no further than a number that passes; where it stops
-- Assumes nothing.
use Rattle.std.specs.Prelude.{◌≡◌, refl, Bool, true, false, not, ◌&&◌, ◌||◌, ◌⊎◌, ℕ, zero, suc, ◌+◌, ◌≤◌, ◌<◌, leb, ltb}
use Rattle.std.proofs.Common.{sym, ◌∙◌, true≢false, ⊎_elim, eq-or-lt_of_le, le_of_suc-le-suc, not-suc-le-zero, arith, leb-true, leb-false, ltb-true, ltb-false, le-ltb, lt-ltb}
use Rattle.std.proofs.Math.Bool.{or-true}
use Rattle.std.proofs.lemmas.Bool.{false≢true}
use Rattle.model.specs.Words.{first, some_below, every_below}

-- A test is true or false
pub by_cases {ℓ} : {X : Type ℓ} (b : Bool) → (b ≡ true → X) → (b ≡ false → X) → X
by_cases true f g = f refl
by_cases false f g = g refl

pub or_no : (a b : Bool) → (a || b) ≡ false → (a ≡ false) × (b ≡ false)
or_no true b e = absurd (true≢false e)
or_no false b e = (refl, e)

pub and_yes : (a b : Bool) → (a && b) ≡ true → (a ≡ true) × (b ≡ true)
and_yes true b e = (refl, e)
and_yes false b e = absurd (false≢true e)

pub ltb_not_leb : (a b : ℕ) → ltb b a ≡ not (leb a b)
ltb_not_leb a b =
    by_cases (leb a b)
    (λ (y : leb a b ≡ true). rw (y, le-ltb b a (leb-true a b y)))
    (λ (z : leb a b ≡ false). rw (z, lt-ltb b a (leb-false a b z)))

pub below_suc : {X : Type 0} (i n : ℕ) → i < suc n → (i < n → X) → (i ≡ n → X) → X
below_suc i n h f g = ⊎_elim g f (eq-or-lt_of_le (le_of_suc-le-suc h))

-- ---- some_below
pub some_hit : (t : ℕ → Bool) (n i : ℕ) → i < n → t i ≡ true → some_below t n ≡ true
unfolding some_below
some_hit t zero i h e = absurd (not-suc-le-zero h)
some_hit t (suc n) i h e =
    below_suc i n h (λ (l : i < n). rw (some_hit t n i l e)) (λ (q : i ≡ n). let e' : t n ≡ true = rw q at e in rw e' (or-true (some_below t n)))

pub some_none : (t : ℕ → Bool) (n : ℕ) → ((i : ℕ) → i < n → t i ≡ false) → some_below t n ≡ false
unfolding some_below
some_none t zero h = refl
some_none t (suc n) h = rw (some_none t n (λ i l. h i (omega arith)), h n (omega arith))

pub some_not : (t : ℕ → Bool) (n i : ℕ) → some_below t n ≡ false → i < n → t i ≡ false
some_not t n i e h = by_cases (t i) (λ (y : t i ≡ true). absurd (false≢true (sym e ∙ some_hit t n i h y))) (λ f. f)

pub some_found : (t : ℕ → Bool) (n : ℕ) → some_below t n ≡ true → (i : ℕ) × (i < n) × (t i ≡ true)
unfolding some_below
some_found t zero e = absurd (false≢true e)
some_found t (suc n) e =
    by_cases (t n)
    (λ (y : t n ≡ true). (n, omega arith, y))
    (λ (f : t n ≡ false).
    let r = some_found t n (by_cases (some_below t n) (λ y. y) (λ (g : some_below t n ≡ false). absurd (false≢true (rw (g, f) at e)))) in
    (r.0, omega (arith, r.1), r.2))

pub some_same : (t u : ℕ → Bool) (n : ℕ) → ((i : ℕ) → i < n → t i ≡ u i) → some_below t n ≡ some_below u n
unfolding some_below
some_same t u zero h = refl
some_same t u (suc n) h = rw (some_same t u n (λ i l. h i (omega arith)), h n (omega arith))

-- ---- every_below
pub every_all : (t : ℕ → Bool) (n : ℕ) → ((i : ℕ) → i < n → t i ≡ true) → every_below t n ≡ true
unfolding every_below
every_all t zero h = refl
every_all t (suc n) h = rw (every_all t n (λ i l. h i (omega arith)), h n (omega arith))

pub every_at : (t : ℕ → Bool) (n i : ℕ) → every_below t n ≡ true → i < n → t i ≡ true
unfolding every_below
every_at t zero i e h = absurd (not-suc-le-zero h)
every_at t (suc n) i e h =
    by_cases (every_below t n)
    (λ (y : every_below t n ≡ true). let e' : t n ≡ true = rw y at e in below_suc i n h (λ l. every_at t n i y l) (λ (q : i ≡ n). rw q e'))
    (λ (f : every_below t n ≡ false). absurd (false≢true (rw f at e)))

pub every_same : (t u : ℕ → Bool) (n : ℕ) → ((i : ℕ) → i < n → t i ≡ u i) → every_below t n ≡ every_below u n
unfolding every_below
every_same t u zero h = refl
every_same t u (suc n) h = rw (every_same t u n (λ i l. h i (omega arith)), h n (omega arith))

-- ---- first
pub first_most : (t : ℕ → Bool) (f p : ℕ) → first t f p ≤ p + f
unfolding first
first_most t zero p = omega arith
first_most t (suc f) p =
    by_cases (t p)
    (λ (y : t p ≡ true). rw y (omega arith))
    (λ (n : t p ≡ false). rw n (omega (arith, first_most t f (suc p))))

pub first_least : (t : ℕ → Bool) (f p : ℕ) → p ≤ first t f p
unfolding first
first_least t zero p = omega arith
first_least t (suc f) p =
    by_cases (t p)
    (λ (y : t p ≡ true). rw y (omega arith))
    (λ (n : t p ≡ false). rw n (omega (arith, first_least t f (suc p))))

pub first_passes : (t : ℕ → Bool) (f p : ℕ) → first t f p < p + f → t (first t f p) ≡ true
unfolding first
first_passes t zero p h = absurd (omega arith)
first_passes t (suc f) p h =
    by_cases (t p)
    (λ (y : t p ≡ true). rw y y)
    (λ (n : t p ≡ false). let h' : first t f (suc p) < p + suc f = rw n at h in rw n (first_passes t f (suc p) (omega arith)))

pub first_skips : (t : ℕ → Bool) (f p q : ℕ) → p ≤ q → q < first t f p → t q ≡ false
unfolding first
first_skips t zero p q l h = absurd (omega arith)
first_skips t (suc f) p q l h =
    by_cases (t p)
    (λ (y : t p ≡ true). let h' : q < p = rw y at h in absurd (omega arith))
    (λ (n : t p ≡ false).
    let h' : q < first t f (suc p) = rw n at h in
    ⊎_elim (λ (e : p ≡ q). rw (← e) n) (λ (l' : p < q). first_skips t f (suc p) q l' h') (eq-or-lt_of_le l))

pub first_within : (t : ℕ → Bool) (f p q : ℕ) → p ≤ q → t q ≡ true → first t f p ≤ q
first_within t f p q l e =
    by_cases (leb (first t f p) q)
    (λ y. leb-true (first t f p) q y)
    (λ n. absurd (true≢false (sym e ∙ first_skips t f p q l (leb-false (first t f p) q n))))

pub first_is : (t : ℕ → Bool) (f p q : ℕ) → p ≤ q → q < p + f → t q ≡ true → ((r : ℕ) → p ≤ r → r < q → t r ≡ false)
    → first t f p ≡ q
first_is t f p q l h e none =
    by_cases (ltb (first t f p) q)
    (λ y.
    let b = ltb-true (first t f p) q y in
    absurd (true≢false (sym (first_passes t f p (omega arith)) ∙ none (first t f p) (first_least t f p) b)))
    (λ n. omega (arith, ltb-false (first t f p) q n, first_within t f p q l e))

pub first_same : (t u : ℕ → Bool) (f p : ℕ) → ((q : ℕ) → p ≤ q → q < p + f → t q ≡ u q) → first t f p ≡ first u f p
unfolding first
first_same t u zero p h = refl
first_same t u (suc f) p h = rw (h p (omega arith) (omega arith), first_same t u f (suc p) (λ q l k. h q (omega arith) (omega arith)))
