-- What one lookup adds to a list of accesses, over a valid pose set: one visit at the found item's place in every list.
--     times_append, made_append          counts over two lists of accesses
--     lookup_times                       a lookup visits, in each list, the place of the item that it finds, once, and nothing else
--     lookup_made_own, lookup_made_other, lookup_made_random      one access of its own kind, none of the other, m - 1 random ones
-- Assumes nothing.
use Rattle.std.specs.Prelude.{◌≡◌, refl, Bool, true, false, cond, not, ◌&&◌, List, [], ◌∷◌, ◌++◌, ℕ, zero, suc, ◌+◌, ◌-◌, ◌<◌, eqb, ltb}
use Rattle.std.proofs.Common.{sym, arith, eqb-true, eq-eqb, ne_eqb, ltb-true, ltb-false, lt-ltb, le-ltb}
use Rattle.std.proofs.lemmas.Bool.{eqb-false}
use Rattle.model.specs.Words.{count}
use Rattle.model.specs.Given.{Poses, item, place}
use Rattle.model.specs.Accesses.{Kind, random, Access, access, same_kind, randoms, lookup, times, made}
use Rattle.laws.specs.Tests.{by_cases}
use Rattle.laws.specs.Lists.{count_append}
use Rattle.laws.specs.Accepted.{Valid}

pub times_append : (tr more : List Access) (i p : ℕ) → times (tr ++ more) i p ≡ times tr i p + times more i p
unfolding times
times_append tr more i p = count_append (λ (a : Access). eqb a.list i && eqb a.position p) tr more

pub made_append : (k : Kind) (tr more : List Access) → made k (tr ++ more) ≡ made k tr + made k more
unfolding made
made_append k tr more = count_append (λ (a : Access). same_kind a.kind k) tr more

-- 1 where a test holds, else 0
abbrev pub once : Bool → ℕ
once b = cond b 1 0

-- one access alone
pub times_one : (k : Kind) (i p j q : ℕ) → times (access k i p ∷ []) j q ≡ once (eqb i j && eqb p q)
unfolding times count
times_one k i p j q = omega arith

pub times_cons : (k : Kind) (i p : ℕ) (tr : List Access) (j q : ℕ)
    → times (access k i p ∷ tr) j q ≡ once (eqb i j && eqb p q) + times tr j q
unfolding times count
times_cons k i p tr j q = refl

pub times_none : (j q : ℕ) → times [] j q ≡ 0
unfolding times count
times_none j q = refl

ltb_suc_other : (j b : ℕ) → (j ≡ b → ⊥) → ltb j (suc b) ≡ ltb j b
ltb_suc_other j b h =
    by_cases (ltb j b)
    (λ (y : ltb j b ≡ true). rw (y, lt-ltb j (suc b) (omega (arith, ltb-true j b y))))
    (λ (z : ltb j b ≡ false). rw (z, le-ltb j (suc b) (omega (arith, ltb-false j b z))))

-- the random accesses in the first b lists: one in list j at d's place, unless j is the list in which d was found
randoms_times : (s : Poses) (d i b j q : ℕ)
    → times (randoms s d i b) j q ≡ once (ltb j b && (not (eqb j i) && eqb (place s j d) q))
unfolding randoms
randoms_times s d i zero j q = rw (le-ltb j 0 (omega arith)) (times_none j q)
randoms_times s d i (suc b) j q =
    rw (times_append, randoms_times s d i b j q)
    (by_cases (eqb j b)
    (λ (y : eqb j b ≡ true).
    let e : j ≡ b = eqb-true j b y in
    rw (e, lt-ltb b (suc b) (omega arith), le-ltb b b (omega arith)) (in_last b))
    (λ (z : eqb j b ≡ false).
    let apart : j ≡ b → ⊥ = eqb-false j b z in
    rw (ltb_suc_other j b apart, out_of_last b (λ (e : b ≡ j). apart (sym e))) (omega arith)))
  where
    in_last : (b : ℕ)
        → 0 + times (cond (eqb b i) [] (access random b (place s b d) ∷ [])) b q ≡ once (not (eqb b i) && eqb (place s b d) q)
    in_last b =
        by_cases (eqb b i)
        (λ (y : eqb b i ≡ true). rw (y, times_none b q))
        (λ (z : eqb b i ≡ false). rw (z, times_one random b (place s b d) b q, eq-eqb b b refl) (omega arith))

    out_of_last : (b : ℕ) → (b ≡ j → ⊥) → times (cond (eqb b i) [] (access random b (place s b d) ∷ [])) j q ≡ 0
    out_of_last b apart =
        by_cases (eqb b i)
        (λ (y : eqb b i ≡ true). rw (y, times_none j q))
        (λ (z : eqb b i ≡ false). rw (z, times_one random b (place s b d) j q, ne_eqb b j apart))

pub lookup_times : (s : Poses) → Valid s → (k : Kind) (i p j q : ℕ) → i < s.m → p < s.n → j < s.m
    → times (lookup s k i p) j q ≡ once (eqb (place s j (item s i p)) q)
unfolding lookup
lookup_times s v k i p j q hi hp hj =
    rw (times_cons k i p (randoms s (item s i p) i s.m) j q, randoms_times s (item s i p) i s.m j q, lt-ltb j s.m hj)
    (by_cases (eqb i j)
    (λ (y : eqb i j ≡ true).
    let e : i ≡ j = eqb-true i j y in
    rw (← e, eq-eqb i i refl, v.place_of_item i p hi hp) (omega arith))
    (λ (z : eqb i j ≡ false).
    let apart : i ≡ j → ⊥ = eqb-false i j z in
    rw (z, ne_eqb j i (λ (e : j ≡ i). apart (sym e))) (omega arith)))

-- ---- how many accesses of each kind
pub made_none : (k : Kind) → made k [] ≡ 0
unfolding made count
made_none k = refl

pub made_one : (k a : Kind) (i p : ℕ) → made k (access a i p ∷ []) ≡ once (same_kind a k)
unfolding made count
made_one k a i p = omega arith

-- the random accesses in the first b lists: one in each but the list in which the item was found
randoms_made : (s : Poses) (d i b : ℕ) → made random (randoms s d i b) + once (ltb i b) ≡ b
unfolding randoms
randoms_made s d i zero = rw (made_none random, le-ltb i 0 (omega arith))
randoms_made s d i (suc b) =
    rw (made_append random (randoms s d i b) (cond (eqb b i) [] (access random b (place s b d) ∷ [])))
    (by_cases (eqb b i)
    (λ (y : eqb b i ≡ true).
    let e : b ≡ i = eqb-true b i y in
    let before : made random (randoms s d i b) + once (ltb i b) ≡ b = randoms_made s d i b in
    let before' : made random (randoms s d i b) + 0 ≡ b = rw (le-ltb i b (omega arith)) at before in
    rw (y, made_none random, lt-ltb i (suc b) (omega arith)) (omega arith))
    (λ (z : eqb b i ≡ false).
    let apart : b ≡ i → ⊥ = eqb-false b i z in
    rw (z, made_one random random b (place s b d), ltb_suc_other i b (λ (e : i ≡ b). apart (sym e)))
    (omega (arith, randoms_made s d i b))))

-- no other kind is among them
randoms_other : (s : Poses) (k : Kind) (d i b : ℕ) → same_kind random k ≡ false → made k (randoms s d i b) ≡ 0
unfolding randoms
randoms_other s k d i zero h = made_none k
randoms_other s k d i (suc b) h =
    rw (made_append k (randoms s d i b) (cond (eqb b i) [] (access random b (place s b d) ∷ [])), randoms_other s k d i b h)
    (by_cases (eqb b i)
    (λ (y : eqb b i ≡ true). rw (y, made_none k))
    (λ (z : eqb b i ≡ false). rw (z, made_one k random b (place s b d), h)))

made_cons : (k a : Kind) (i p : ℕ) (tr : List Access) → made k (access a i p ∷ tr) ≡ once (same_kind a k) + made k tr
unfolding made count
made_cons k a i p tr = refl

-- a lookup by a sorted or direct access makes one access of that kind
pub lookup_made_own : (s : Poses) (k : Kind) (i p : ℕ) → same_kind random k ≡ false → same_kind k k ≡ true
    → made k (lookup s k i p) ≡ 1
unfolding lookup
lookup_made_own s k i p h same = rw (made_cons k k i p (randoms s (item s i p) i s.m), randoms_other s k (item s i p) i s.m h, same)

-- none of another kind that is not random
pub lookup_made_other : (s : Poses) (k a : Kind) (i p : ℕ) → same_kind random k ≡ false → same_kind a k ≡ false
    → made k (lookup s a i p) ≡ 0
unfolding lookup
lookup_made_other s k a i p h other = rw (made_cons k a i p (randoms s (item s i p) i s.m), randoms_other s k (item s i p) i s.m h, other)

-- and a random one in each other list
pub lookup_made_random : (s : Poses) (a : Kind) (i p : ℕ) → same_kind a random ≡ false → i < s.m
    → made random (lookup s a i p) + 1 ≡ s.m
unfolding lookup
lookup_made_random s a i p h hi =
    let all : made random (randoms s (item s i p) i s.m) + 1 ≡ s.m = rw (lt-ltb i s.m hi) at (randoms_made s (item s i p) i s.m) in
    rw (made_cons random a i p (randoms s (item s i p) i s.m), h) (omega arith)
