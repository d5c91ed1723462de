-- Visits in one list after the other, and the walk to a best position.
--     over_set           a store into the written part of a slice
--     visiting_starts, visiting_goes_on      no list is visited yet; one list more is
--     count_before       what stands at the item's position in a list that is still to be visited
--     walked_is          where a walk ends
-- Assumes nothing.
use mathlib.Core.Path.{◌≡◌, refl, sym, ap, ◌∙◌}
use mathlib.Core.Bool.{Bool, true, false, cond, ◌&&◌}
use mathlib.Core.List.{List}
use Prim.Native.Nat.{ℕ, ◌+◌, ◌-◌, ◌*◌, ◌≤◌, ◌<◌}
use native.Mathlib.Nat.{add-zero}
use native.Mathlib.Omega.{arith}
use lib.Dec.{eqb, ltb}
use lib.ListN.{length, get_or, set, drop, length-set}
use lib.Seq.{set-append_left}
use borrow.Author.Tests.{eqb-true, eqb-false, eq-eqb, ne_eqb, ltb-true, ltb-false, lt-ltb, le-ltb}
use Rattle.model.specs.Words.{first, table, over}
use Rattle.laws.specs.Tests.{by_cases, first_is, first_most, first_passes}
use Rattle.laws.specs.Lists.{table_length, table_room, table_at, table_same, table_set, table_of, over_at}
use Rattle.laws.specs.Lookups.{once}
use Rattle.noting.specs.Clauses.{visited_in, walked_to}

pub over_set : (l s : List ℕ) (x v : ℕ) → x < length l → set (over l s) x v ≡ over (set l x v) s
unfolding over
over_set l s x v h = rw (set-append_left l (drop (length l) s) x v h, length-set)

module _ (d m n : ℕ) (work tally : List ℕ) where
  counts : ℕ → ℕ → ℕ → ℕ
  counts b i p = get_or tally (i * n + p) 0 + once (ltb i b && eqb (get_or work (i * n + d) 0 - 1) p)

  pub visiting_starts : m * n ≤ length tally → tally ≡ visited_in d m n work tally 0
  unfolding visited_in counts
  visiting_starts h =
      table_of n m tally h
      ∙ ap (λ (t : List ℕ). over t tally)
      (table_same (λ i p. get_or tally (i * n + p) 0) (counts 0) n m (λ i p hi hp. rw (le-ltb i 0 (omega arith), add-zero)))

  -- an entry, while the first b lists are visited
  visiting_at : (b i p : ℕ) → i < m → p < n → get_or (visited_in d m n work tally b) (i * n + p) 0 ≡ counts b i p
  unfolding visited_in counts
  visiting_at b i p hi hp =
      over_at (table (counts b) n m) tally (i * n + p) 0 (omega (arith, table_length (counts b) n m, table_room i m n hi))
      ∙ table_at (counts b) n m i p 0 hi hp

  pub count_before : (i p : ℕ) → i < m → p < n → get_or (visited_in d m n work tally i) (i * n + p) 0 ≡ get_or tally (i * n + p) 0
  unfolding counts
  count_before i p hi hp = visiting_at i i p hi hp ∙ rw (le-ltb i i (omega arith), add-zero)

  -- one list more
  counts_more : (i p j q : ℕ) → get_or work (i * n + d) 0 - 1 ≡ p
      → cond (eqb i j && eqb p q) (get_or tally (i * n + p) 0 + 1) (counts i j q) ≡ counts (i + 1) j q
  unfolding counts
  counts_more i p j q place =
      by_cases (eqb i j)
      (λ (y : eqb i j ≡ true).
      let e : i ≡ j = eqb-true i j y in
      rw (← e, eq-eqb i i refl, place, le-ltb i i (omega arith), lt-ltb i (i + 1) (omega arith))
      (by_cases (eqb p q)
      (λ (u : eqb p q ≡ true). let e' : p ≡ q = eqb-true p q u in rw (← e', eq-eqb p p refl))
      (λ (w : eqb p q ≡ false). rw w)))
      (λ (z : eqb i j ≡ false).
      rw (z, ltb_next i j (eqb-false i j z)))
    where
      ltb_next : (i j : ℕ) → (i ≡ j → ⊥) → ltb j (i + 1) ≡ ltb j i
      ltb_next i j apart =
          by_cases (ltb j i)
          (λ (y : ltb j i ≡ true). rw (y, lt-ltb j (i + 1) (omega (arith, ltb-true j i y))))
          (λ (w : ltb j i ≡ false). rw (w, le-ltb j (i + 1) (omega (arith, ltb-false j i w))))

  pub visiting_goes_on : (i p : ℕ) → i < m → p < n → get_or work (i * n + d) 0 - 1 ≡ p
      → set (visited_in d m n work tally i) (i * n + p) (get_or (visited_in d m n work tally i) (i * n + p) 0 + 1) ≡ visited_in d m n work tally (i + 1)
  unfolding visited_in counts
  visiting_goes_on i p hi hp place =
      let old : get_or (visited_in d m n work tally i) (i * n + p) 0 ≡ get_or tally (i * n + p) 0 = count_before i p hi hp in
      let inside : i * n + p < length (table (counts i) n m) = omega (arith, table_length (counts i) n m, table_room i m n hi) in
      rw old
      (over_set (table (counts i) n m) tally (i * n + p) (get_or tally (i * n + p) 0 + 1) inside
      ∙ ap (λ (t : List ℕ). over t tally)
      (table_set (counts i) n m i p (get_or tally (i * n + p) 0 + 1) hi hp
      ∙ table_same (λ j q. cond (eqb i j && eqb p q) (get_or tally (i * n + p) 0 + 1) (counts i j q)) (counts (i + 1)) n m
      (λ j q hj hq. counts_more i p j q place)))

-- where a walk ends: at the first position that was not visited, or past the last
pub walked_is : (i n b : ℕ) (tally : List ℕ) → b ≤ n → ((p : ℕ) → p < b → get_or tally (i * n + p) 0 ≡ 0 → ⊥)
    → (b < n → get_or tally (i * n + b) 0 ≡ 0) → b ≡ walked_to i n tally
unfolding walked_to
walked_is i n b tally h before stop =
    let t : ℕ → Bool = λ p. eqb (get_or tally (i * n + p) 0) 0 in
    by_cases (ltb b n)
    (λ (y : ltb b n ≡ true).
    sym (first_is t n 0 b (omega arith) (omega (arith, ltb-true b n y)) (eq-eqb (get_or tally (i * n + b) 0) 0 (stop (ltb-true b n y)))
    (λ r _ l. ne_eqb (get_or tally (i * n + r) 0) 0 (before r l))))
    (λ (z : ltb b n ≡ false).
    by_cases (ltb (first t n 0) n)
    (λ (y : ltb (first t n 0) n ≡ true).
    let here = first_passes t n 0 (omega (arith, ltb-true (first t n 0) n y)) in
    absurd (before (first t n 0) (omega (arith, ltb-true (first t n 0) n y, ltb-false b n z)) (eqb-true (get_or tally (i * n + first t n 0) 0) 0 here)))
    (λ (w : ltb (first t n 0) n ≡ false).
    omega (arith, first_most t n 0, ltb-false (first t n 0) n w, ltb-false b n z)))
