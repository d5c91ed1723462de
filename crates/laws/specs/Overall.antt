-- Laws of the overall score: `join_two`, `join`, `joined`, `overall`.
--     join_two_rises, join_rises, joined_rises, overall_rises    none falls where a product or a local score rises
--     joined_same, overall_same                                  equal scores in the lists joined give equal values
--     joined_step                                                one list more
--     join_two_most, join_most, joined_most, overall_most        how large they are: at most 524,280,000
--     product_most                                               a local score times a weight
-- Assumes nothing.
use Rattle.std.specs.Prelude.{◌≡◌, refl, true, false, ℕ, zero, suc, ◌+◌, ◌*◌, ◌≤◌, ◌<◌, eqb}
use Rattle.std.proofs.Common.{mul-le-mul, mul-le-mul_right, arith}
use Rattle.model.specs.Given.{Poses, Query, join_two, join, joined, overall}
use Rattle.laws.specs.Tests.{by_cases}

-- the three rules, by the tests that tell them apart
by_rule : {X : Type 0} (rule : ℕ) → (eqb rule 0 ≡ true → X) → (eqb rule 0 ≡ false → eqb rule 1 ≡ true → X)
    → (eqb rule 0 ≡ false → eqb rule 1 ≡ false → X) → X
by_rule rule sum least greatest = by_cases (eqb rule 0) sum (λ z. by_cases (eqb rule 1) (least z) (greatest z))

pub join_two_rises : (rule a b a' b' : ℕ) → a ≤ a' → b ≤ b' → join_two rule a b ≤ join_two rule a' b'
unfolding join_two
join_two_rises rule a b a' b' h k =
    by_rule rule (λ y. rw y (omega arith)) (λ z y. rw (z, y) (omega arith)) (λ z x. rw (z, x) (omega arith))

-- at most the sum
pub join_two_most : (rule a b : ℕ) → join_two rule a b ≤ a + b
unfolding join_two
join_two_most rule a b =
    by_rule rule (λ y. rw y (omega arith)) (λ z y. rw (z, y) (omega arith)) (λ z x. rw (z, x) (omega arith))

pub join_rises : (rule i a b a' b' : ℕ) → a ≤ a' → b ≤ b' → join rule i a b ≤ join rule i a' b'
unfolding join
join_rises rule zero a b a' b' h k = k
join_rises rule (suc i) a b a' b' h k = join_two_rises rule a b a' b' h k

pub join_most : (rule i a b : ℕ) → join rule i a b ≤ a + b
unfolding join
join_most rule zero a b = omega arith
join_most rule (suc i) a b = join_two_most rule a b

-- one list more
pub joined_step : (rule : ℕ) (x : ℕ → ℕ) (i : ℕ) → joined rule x (suc i) ≡ join rule i (joined rule x i) (x i)
unfolding joined
joined_step rule x i = refl

pub joined_rises : (rule : ℕ) (x y : ℕ → ℕ) (i : ℕ) → ((j : ℕ) → j < i → x j ≤ y j) → joined rule x i ≤ joined rule y i
unfolding joined
joined_rises rule x y zero h = omega arith
joined_rises rule x y (suc i) h =
    join_rises rule i (joined rule x i) (x i) (joined rule y i) (y i)
    (joined_rises rule x y i (λ j l. h j (omega arith))) (h i (omega arith))

pub joined_same : (rule : ℕ) (x y : ℕ → ℕ) (i : ℕ) → ((j : ℕ) → j < i → x j ≡ y j) → joined rule x i ≡ joined rule y i
unfolding joined
joined_same rule x y zero h = refl
joined_same rule x y (suc i) h = rw (joined_same rule x y i (λ j l. h j (omega arith)), h i (omega arith))

-- products of at most 65,535,000 each, joined over i lists
pub joined_most : (rule : ℕ) (x : ℕ → ℕ) (i : ℕ) → ((j : ℕ) → j < i → x j ≤ 65535000) → joined rule x i ≤ i * 65535000
unfolding joined
joined_most rule x zero h = omega arith
joined_most rule x (suc i) h =
    let before = joined_most rule x i (λ j l. h j (omega arith)) in
    omega (arith, join_most rule i (joined rule x i) (x i), h i (omega arith))

pub overall_same : (s : Poses) (q : Query) (x y : ℕ → ℕ) → ((i : ℕ) → i < s.m → x i ≡ y i)
    → overall s q x ≡ overall s q y
unfolding overall
overall_same s q x y h =
    joined_same q.rule (λ i. x i * q.weight i) (λ i. y i * q.weight i) s.m (λ i l. rw (h i l))

-- "All three are monotone"
pub overall_rises : (s : Poses) (q : Query) (x y : ℕ → ℕ) → ((i : ℕ) → i < s.m → x i ≤ y i)
    → overall s q x ≤ overall s q y
unfolding overall
overall_rises s q x y h =
    joined_rises q.rule (λ i. x i * q.weight i) (λ i. y i * q.weight i) s.m
    (λ i l. mul-le-mul_right (q.weight i) (h i l))

-- a score of at most 65,535 times a weight of at most 1,000
pub product_most : (x w : ℕ) → x ≤ 65535 → w ≤ 1000 → x * w ≤ 65535000
product_most x w hx hw = mul-le-mul hx hw

-- "The greatest value is 8 x 65,535 x 1,000 = 524,280,000"
pub overall_most : (s : Poses) (q : Query) (x : ℕ → ℕ) → s.m ≤ 8 → ((i : ℕ) → i < s.m → x i ≤ 65535)
    → ((i : ℕ) → i < s.m → q.weight i ≤ 1000) → overall s q x ≤ 524280000
unfolding overall
overall_most s q x few hx hw =
    let product : (i : ℕ) → i < s.m → x i * q.weight i ≤ 65535000 =
    λ i l. product_most (x i) (q.weight i) (hx i l) (hw i l) in
    omega (arith, joined_most q.rule (λ i. x i * q.weight i) s.m product)
