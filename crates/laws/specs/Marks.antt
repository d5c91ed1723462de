-- Items noted one position after the other, as the list check does: position p notes p + 1 at the item that stands there.
--     noted f p d            what is noted at item d once the first p positions are; f q is the item at position q
--     noted_store            one position more is one store
--     noted_free             nothing is noted at an item that stood at none of them, and something at one that did
--     noted_at               what is noted at an item that stood at one of them and later at none
--     Distinct               the items of the first p positions are below n, each new
--     noted_last             what is noted at an item of distinct ones
--     noted_all, each_found  n distinct items below n: each item below n is noted; each stands at a position
--     all_noted              n items below n that are all noted are distinct
-- Assumes nothing.
use Rattle.std.specs.Prelude.{◌≡◌, refl, Bool, true, false, cond, not, eqb, get_or, set, replicate}
use Rattle.std.proofs.Common.{sym, ap, ◌∙◌, not-suc-le-zero, add-one, arith, eqb-true, eq-eqb, ne_eqb}
use Rattle.std.proofs.Math.Bool.{or-false, or-true}
use Rattle.std.proofs.lemmas.Bool.{false≢true, eqb-false}
use Prim.Native.Nat.{ℕ, zero, suc, ◌+◌, ◌≤◌, ◌<◌}
use Rattle.model.specs.Words.{some_below, count, row}
use Rattle.laws.specs.Tests.{by_cases, below_suc, some_found, some_not}
use Rattle.laws.specs.Lists.{row_length, row_at, row_set, row_zeros, count_set, count_kept, count_full, count_all}

-- what is noted at item d once the first p positions are
unfoldable pub noted : (ℕ → ℕ) → ℕ → ℕ → ℕ
noted f zero d = 0
noted f (suc p) d = cond (eqb (f p) d) (p + 1) (noted f p d)

pub noted_store : (f : ℕ → ℕ) (n p : ℕ) → f p < n → set (row (noted f p) n) (f p) (p + 1) ≡ row (noted f (suc p)) n
unfolding noted
noted_store f n p h = row_set (noted f p) n (f p) (p + 1) h

-- item d stood at one of the first p positions
abbrev pub stood : (ℕ → ℕ) → ℕ → ℕ → Bool
stood f p d = some_below (λ q. eqb (f q) d) p

pub noted_free : (f : ℕ → ℕ) (p d : ℕ) → eqb (noted f p d) 0 ≡ not (stood f p d)
unfolding noted some_below
noted_free f zero d = refl
noted_free f (suc p) d =
    by_cases (eqb (f p) d)
    (λ (y : eqb (f p) d ≡ true). rw (y, or-true, ne_eqb (p + 1) 0 (λ e. omega arith)))
    (λ (z : eqb (f p) d ≡ false). rw (z, or-false) (noted_free f p d))

pub noted_at : (f : ℕ → ℕ) (p q d : ℕ) → q < p → f q ≡ d → ((r : ℕ) → q < r → r < p → f r ≡ d → ⊥) → noted f p d ≡ q + 1
unfolding noted
noted_at f zero q d h e new = absurd (not-suc-le-zero h)
noted_at f (suc p) q d h e new =
    below_suc q p h
    (λ (l : q < p). rw (ne_eqb (f p) d (new p l (omega arith))) (noted_at f p q d l e (λ r a b. new r a (omega arith))))
    (λ (x : q ≡ p). let y : f p ≡ d = rw x at e in rw (eq-eqb (f p) d y, x))

-- the items of the first p positions are below n, and each is new
pub record Distinct (f : ℕ → ℕ) (n p : ℕ) : Type 0 where
  pub small : (q : ℕ) → q < p → f q < n
  pub new : (q : ℕ) → q < p → stood f q (f q) ≡ false

pub noted_last : (f : ℕ → ℕ) (n q d : ℕ) → Distinct f n n → q < n → f q ≡ d → noted f n d ≡ q + 1
noted_last f n q d h l e =
    noted_at f n q d l e
    (λ r later inside same.
    eqb-false (f q) (f r) (some_not (λ x. eqb (f x) (f r)) r q (h.new r inside) later) (e ∙ sym same))

marked : ℕ → Bool
marked x = not (eqb x 0)

none_marked : (n : ℕ) → count marked (replicate n 0) ≡ 0
unfolding marked count
none_marked zero = refl
none_marked (suc n) = rw (none_marked n)

-- an item that is new is one noted more; one that stood already is none more
new_noted : (f : ℕ → ℕ) (n p : ℕ) → f p < n → stood f p (f p) ≡ false
    → count marked (row (noted f (suc p)) n) ≡ count marked (row (noted f p) n) + 1
unfolding marked
new_noted f n p here new =
    let free : eqb (noted f p (f p)) 0 ≡ true = noted_free f p (f p) ∙ ap not new in
    let unmarked : marked (get_or (row (noted f p) n) (f p) 0) ≡ false = rw (row_at (noted f p) n (f p) 0 here, free) in
    rw (← (noted_store f n p here))
    (count_set marked (row (noted f p) n) (f p) (p + 1) 0 (rw row_length here) unmarked (rw (ne_eqb (p + 1) 0 (λ e. omega arith))))

again_noted : (f : ℕ → ℕ) (n p : ℕ) → f p < n → stood f p (f p) ≡ true
    → count marked (row (noted f (suc p)) n) ≡ count marked (row (noted f p) n)
unfolding marked
again_noted f n p here again =
    let taken : eqb (noted f p (f p)) 0 ≡ false = noted_free f p (f p) ∙ ap not again in
    let already : marked (get_or (row (noted f p) n) (f p) 0) ≡ true = rw (row_at (noted f p) n (f p) 0 here, taken) in
    rw (← (noted_store f n p here))
    (count_kept marked (row (noted f p) n) (f p) (p + 1) 0 (rw row_length here) already (rw (ne_eqb (p + 1) 0 (λ e. omega arith))))

-- as many items are noted as positions were passed
noted_count : (f : ℕ → ℕ) (n p : ℕ) → Distinct f n p → count marked (row (noted f p) n) ≡ p
unfolding marked noted
noted_count f n zero h = rw row_zeros (none_marked n)
noted_count f n (suc p) h =
    let before = noted_count f n p (record { small = λ q l. h.small q (omega arith); new = λ q l. h.new q (omega arith) }) in
    new_noted f n p (h.small p (omega arith)) (h.new p (omega arith)) ∙ rw before (add-one p)

-- no more are, and fewer where an item stood twice
module _ (f : ℕ → ℕ) (n : ℕ) where
  noted_most : (p : ℕ) → ((q : ℕ) → q < p → f q < n) → count marked (row (noted f p) n) ≤ p
  unfolding marked noted
  noted_most zero small = rw (row_zeros, none_marked n) (omega arith)
  noted_most (suc p) small =
      let before = noted_most p (λ q l. small q (omega arith)) in
      by_cases (stood f p (f p))
      (λ (again : stood f p (f p) ≡ true). omega (arith, before, again_noted f n p (small p (omega arith)) again))
      (λ (new : stood f p (f p) ≡ false). omega (arith, before, new_noted f n p (small p (omega arith)) new))

  noted_fewer : (p q : ℕ) → ((r : ℕ) → r < p → f r < n) → q < p → stood f q (f q) ≡ true → count marked (row (noted f p) n) < p
  noted_fewer zero q small h twice = absurd (not-suc-le-zero h)
  noted_fewer (suc p) q small h twice =
      let here = small p (omega arith) in
      let earlier : (r : ℕ) → r < p → f r < n = λ r l. small r (omega arith) in
      below_suc q p h
      (λ (l : q < p).
      let before = noted_fewer p q earlier l twice in
      by_cases (stood f p (f p))
      (λ (again : stood f p (f p) ≡ true). omega (arith, before, again_noted f n p here again))
      (λ (new : stood f p (f p) ≡ false). omega (arith, before, new_noted f n p here new)))
      (λ (e : q ≡ p).
      let again : stood f p (f p) ≡ true = rw e at twice in
      omega (arith, noted_most p earlier, again_noted f n p here again))

  -- n items below n that are all noted are distinct
  pub all_noted : ((q : ℕ) → q < n → f q < n) → ((d : ℕ) → d < n → eqb (noted f n d) 0 ≡ false) → Distinct f n n
  unfolding marked
  all_noted small every =
      let full : count marked (row (noted f n) n) ≡ n =
      count_all marked (row (noted f n) n) 0
      (λ d l. let below : d < n = rw row_length at l in rw (row_at (noted f n) n d 0 below, every d below))
      ∙ row_length (noted f n) n in
      record {
        small = small;
        new = λ q l.
            by_cases (stood f q (f q))
            (λ (twice : stood f q (f q) ≡ true). absurd (omega (arith, full, noted_fewer n q small l twice)))
            (λ (new : stood f q (f q) ≡ false). new);
      }

-- n distinct items below n: each item below n is noted
pub noted_all : (f : ℕ → ℕ) (n d : ℕ) → Distinct f n n → d < n → stood f n d ≡ true
unfolding marked
noted_all f n d h l =
    let full : marked (get_or (row (noted f n) n) d 0) ≡ true =
    count_full marked (row (noted f n) n) d 0 (noted_count f n n h ∙ sym (row_length (noted f n) n)) (rw row_length l) in
    let noted_here : not (eqb (noted f n d) 0) ≡ true = rw (row_at (noted f n) n d 0 l) at full in
    by_cases (stood f n d) (λ y. y) (λ (z : stood f n d ≡ false). absurd (false≢true (rw (noted_free f n d, z) at noted_here)))

-- and each stands at a position
pub each_found : (f : ℕ → ℕ) (n d : ℕ) → Distinct f n n → d < n → (q : ℕ) × (q < n) × (f q ≡ d)
each_found f n d h l = let r = some_found (λ q. eqb (f q) d) n (noted_all f n d h l) in (r.0, r.1, eqb-true (f r.0) d r.2)
