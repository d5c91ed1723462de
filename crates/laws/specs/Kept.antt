-- The first k entries of a list in the order.
--     last_at, kept_last             the last of them
--     take_among, among_take         where an item of them stands, and back
--     kept_before, kept_after        each of them is the last or stands before it; every other entry stands after it
--     kept_item                      each of the first k ranked items is an item and passes the test
--     kept_others, kept_each         each passing item left out stands after the last kept; each kept is the last or before it
--     kept_low, left_low             no kept item has a smaller low than the last kept, and none left out a greater one
--     kth_passes, kth_counts         a test that goes on to whatever stands before: k entries pass just when the k-th does
--     ranked_parted, kept_front      a test whose items stand before all others: these come first; where k items pass it, no other is kept
-- Assumes nothing.
use Rattle.std.specs.Prelude.{◌≡◌, Bool, ◌&&◌, ◌⊎◌, eqb, ltb, length, get_or, take}
use Rattle.std.proofs.Math.Path.{refl, sym, ap}
use Rattle.std.proofs.Common.{◌∙◌, true≢false, inl, inr, ⊎_elim, not-suc-le-zero, le_of_suc-le-suc, length-take, get_or-take, eq-eqb, ltb-true, ltb-false, lt-ltb}
use Rattle.std.proofs.Math.Bool.{true, false, cond, not, or-true, not-not}
use mathlib.Core.List.{List, [], ◌∷◌, ◌++◌}
use Prim.Native.Nat.{ℕ, zero, suc, ◌+◌, ◌-◌, ◌≤◌, ◌<◌}
use native.Mathlib.Omega.{arith}
use Rattle.std.proofs.lemmas.List.{take-append-le}
use Rattle.model.specs.Words.{count, last_of}
use Rattle.model.specs.Searches.{ahead, insert, ranked, among}
use Rattle.laws.specs.Tests.{by_cases, and_yes}
use Rattle.laws.specs.Passing.{passing}
use Rattle.laws.specs.Ahead.{Ordering, not_both, ahead_ordering, ahead_low}
use Rattle.laws.specs.Ranking.{Sorted, among_at, among_found, sorted_tail, ranked_among, ranked_length, ranked_sorted}

-- ---- the first k
-- the last of the first k entries
pub last_at : (x : ℕ) (l : List ℕ) (j : ℕ) → j < length l → last_of x (take (suc j) l) ≡ get_or l j 0
unfolding last_of
last_at x [] j h = absurd (not-suc-le-zero h)
last_at x (e ∷ l) zero h = refl
last_at x (e ∷ l) (suc j) h = last_at e l j (le_of_suc-le-suc h)

pub take_among : (d k : ℕ) (l : List ℕ) → among d (take k l) ≡ true
    → (j : ℕ) × (j < k) × (j < length l) × (get_or l j 0 ≡ d)
take_among d k l y =
    let r = among_found d (take k l) y in
    let size = length-take k l in
    (r.0, omega (arith, r.1), omega (arith, r.1), sym (get_or-take k l r.0 0 (omega (arith, r.1))) ∙ r.2)

pub among_take : (k : ℕ) (l : List ℕ) (j : ℕ) → j < k → j < length l → among (get_or l j 0) (take k l) ≡ true
among_take k l j hk hl =
    let size = length-take k l in
    rw (get_or-take k l j 0 hk) at (among_at (take k l) j (omega arith))

pub kept_last : (l : List ℕ) (k : ℕ) → 1 ≤ k → k ≤ length l → last_of 0 (take k l) ≡ get_or l (k - 1) 0
kept_last l k some full = let e : suc (k - 1) ≡ k = omega arith in rw e at (last_at 0 l (k - 1) (omega arith))

module _ (before : ℕ → ℕ → Bool) (l : List ℕ) (h : Sorted before l) (k : ℕ) (some : 1 ≤ k) (full : k ≤ length l) where
  -- each of the first k is the last of them or stands before it
  pub kept_before : (d : ℕ) → among d (take k l) ≡ true
      → (d ≡ last_of 0 (take k l)) ⊎ (before d (last_of 0 (take k l)) ≡ true)
  kept_before d y =
      let r = take_among d k l y in
      by_cases (ltb r.0 (k - 1))
      (λ (x : ltb r.0 (k - 1) ≡ true).
      let e : before (get_or l r.0 0) (get_or l (k - 1) 0) ≡ true =
      h r.0 (k - 1) (ltb-true r.0 (k - 1) x) (omega arith) in
      inr (rw (kept_last l k some full) (rw r.3 at e)))
      (λ (x : ltb r.0 (k - 1) ≡ false).
      let e : r.0 ≡ k - 1 = omega (arith, r.1, ltb-false r.0 (k - 1) x) in
      inl (rw (kept_last l k some full) (sym r.3 ∙ ap (λ (j : ℕ). get_or l j 0) e)))

  -- and every other entry stands after it
  pub kept_after : (d : ℕ) → among d l ≡ true → among d (take k l) ≡ false → before (last_of 0 (take k l)) d ≡ true
  kept_after d y z =
      let r = among_found d l y in
      by_cases (ltb r.0 k)
      (λ (x : ltb r.0 k ≡ true).
      let e : among (get_or l r.0 0) (take k l) ≡ true = among_take k l r.0 (ltb-true r.0 k x) r.1 in
      absurd (true≢false (sym (rw r.2 at e) ∙ z)))
      (λ (x : ltb r.0 k ≡ false).
      let e : before (get_or l (k - 1) 0) (get_or l r.0 0) ≡ true =
      h (k - 1) r.0 (omega (arith, ltb-false r.0 k x)) r.1 in
      rw (kept_last l k some full) (rw r.2 at e))

-- ---- a test that is passed by whatever stands before what passes it
module _ (before : ℕ → ℕ → Bool) (t : ℕ → Bool)
    (goes_on : (d e : ℕ) → before d e ≡ true → t e ≡ true → t d ≡ true) where
  -- an entry that passes, where there is one
  passing_found : (l : List ℕ) → 0 < count t l → (j : ℕ) × (j < length l) × (t (get_or l j 0) ≡ true)
  unfolding count
  passing_found [] c = absurd (not-suc-le-zero c)
  passing_found (e ∷ l) c =
      by_cases (t e)
      (λ (y : t e ≡ true). (0, omega arith, y))
      (λ (z : t e ≡ false).
      let c' : 0 < 0 + count t l = rw z at c in
      let r = passing_found l (omega arith) in
      (suc r.0, omega (arith, r.1), r.2))

  -- more than j entries pass: entry j does
  pub kth_passes : (l : List ℕ) (j : ℕ) → Sorted before l → j < count t l → t (get_or l j 0) ≡ true
  unfolding count
  kth_passes [] j h c = absurd (not-suc-le-zero c)
  kth_passes (e ∷ l) zero h c =
      by_cases (t e)
      (λ y. y)
      (λ (z : t e ≡ false).
      let c' : 0 < 0 + count t l = rw z at c in
      let r = passing_found l (omega arith) in
      goes_on e (get_or l r.0 0) (h 0 (suc r.0) (omega arith) (omega (arith, r.1))) r.2)
  kth_passes (e ∷ l) (suc j) h c =
      let few : cond (t e) 1 0 ≤ 1 = by_cases (t e) (λ y. rw y (omega arith)) (λ z. rw z (omega arith)) in
      kth_passes l j (sorted_tail before e l h) (omega arith)

  -- entry j passes: more than j entries do
  pub kth_counts : (l : List ℕ) (j : ℕ) → Sorted before l → j < length l → t (get_or l j 0) ≡ true → j < count t l
  unfolding count
  kth_counts [] j h k y = absurd (not-suc-le-zero k)
  kth_counts (e ∷ l) zero h k y = rw y (omega arith)
  kth_counts (e ∷ l) (suc j) h k y =
      let here : t e ≡ true = goes_on e (get_or l j 0) (h 0 (suc j) (omega arith) k) y in
      rw here (omega (arith, kth_counts l j (sorted_tail before e l h) (le_of_suc-le-suc k) y))

-- ---- the first k ranked items
pub kept_item : (before : ℕ → ℕ → Bool) (t : ℕ → Bool) (n k d : ℕ) → among d (take k (ranked before t n)) ≡ true
    → (d < n) × (t d ≡ true)
kept_item before t n k d y =
    let r = take_among d k (ranked before t n) y in
    let inside : among d (ranked before t n) ≡ true = rw r.3 at (among_at (ranked before t n) r.0 r.2) in
    let both = and_yes (ltb d n) (t d) (sym (ranked_among before t d n) ∙ inside) in
    (ltb-true d n both.0, both.1)

module _ (before : ℕ → ℕ → Bool) (o : Ordering before) (t : ℕ → Bool) (n k : ℕ)
    (some : 1 ≤ k) (full : length (take k (ranked before t n)) ≡ k) where
  enough : k ≤ length (ranked before t n)
  enough = omega (arith, length-take k (ranked before t n))

  -- every item that passes and is left out stands after the last kept
  pub kept_others : (d : ℕ) → d < n → t d ≡ true → among d (take k (ranked before t n)) ≡ false
      → before (last_of 0 (take k (ranked before t n))) d ≡ true
  kept_others d l y z =
      kept_after before (ranked before t n) (ranked_sorted before o t n) k some enough d
      (rw (ranked_among before t d n, lt-ltb d n l, y)) z

  -- each kept item is the last kept or stands before it
  pub kept_each : (d : ℕ) → among d (take k (ranked before t n)) ≡ true
      → (d ≡ last_of 0 (take k (ranked before t n))) ⊎ (before d (last_of 0 (take k (ranked before t n))) ≡ true)
  kept_each d y = kept_before before (ranked before t n) (ranked_sorted before o t n) k some enough d y

-- ---- a test whose items stand before all others
module _ (before : ℕ → ℕ → Bool) (o : Ordering before) (t : ℕ → Bool)
    (in_front : (d e : ℕ) → t d ≡ true → t e ≡ false → before d e ≡ true) where
  -- an item that passes goes among those that pass
  insert_front : (d : ℕ) (l r : List ℕ) → t d ≡ true → ((e : ℕ) → among e r ≡ true → t e ≡ false)
      → insert before d (l ++ r) ≡ insert before d l ++ r
  unfolding insert among
  insert_front d [] [] y fail = refl
  insert_front d [] (e ∷ r) y fail =
      let first : before d e ≡ true = in_front d e y (fail e (rw (eq-eqb e e refl))) in
      rw first
  insert_front d (e ∷ l) r y fail =
      by_cases (before d e)
      (λ (a : before d e ≡ true). rw a)
      (λ (a : before d e ≡ false). rw (a, insert_front d l r y fail))

  -- any other goes behind them
  insert_behind : (d : ℕ) (l r : List ℕ) → t d ≡ false → ((e : ℕ) → among e l ≡ true → t e ≡ true)
      → insert before d (l ++ r) ≡ l ++ insert before d r
  unfolding insert among
  insert_behind d [] r z pass = refl
  insert_behind d (e ∷ l) r z pass =
      let later : before d e ≡ false = not_both o e d (in_front e d (pass e (rw (eq-eqb e e refl))) z) in
      rw (later, insert_behind d l r z (λ x y. pass x (rw y (or-true (eqb x e)))))

  module _ (u : ℕ → Bool) where
    ranked_test : (w : ℕ → Bool) (n e : ℕ) → among e (ranked before (λ d. u d && w d) n) ≡ true → w e ≡ true
    ranked_test w n e y =
        let inside = and_yes (ltb e n) (u e && w e) (sym (ranked_among before (λ d. u d && w d) e n) ∙ y) in
        (and_yes (u e) (w e) inside.1).1

    pub ranked_parted : (n : ℕ)
        → ranked before u n ≡ ranked before (λ d. u d && t d) n ++ ranked before (λ d. u d && not (t d)) n
    unfolding ranked
    ranked_parted zero = refl
    ranked_parted (suc n) =
        let front = ranked before (λ d. u d && t d) n in
        let rest = ranked before (λ d. u d && not (t d)) n in
        by_cases (u n)
        (λ (y : u n ≡ true).
        by_cases (t n)
        (λ (a : t n ≡ true).
        rw (y, a, ranked_parted n)
        (insert_front n front rest a (λ e b. sym (not-not (t e)) ∙ ap not (ranked_test (λ d. not (t d)) n e b))))
        (λ (a : t n ≡ false). rw (y, a, ranked_parted n) (insert_behind n front rest a (ranked_test t n))))
        (λ (z : u n ≡ false). rw (z, ranked_parted n))

    -- k items pass it: the first k are the first k of these
    pub kept_front : (n k : ℕ) → k ≤ passing (λ d. u d && t d) n
        → take k (ranked before u n) ≡ take k (ranked before (λ d. u d && t d) n)
    kept_front n k enough =
        let front = ranked before (λ d. u d && t d) n in
        ap (take k) (ranked_parted n)
        ∙ take-append-le k front (ranked before (λ d. u d && not (t d)) n) (omega (arith, ranked_length before (λ d. u d && t d) n))

-- ---- in the order of the shortlist
module _ (low high : ℕ → ℕ) (t : ℕ → Bool) (n k : ℕ)
    (some : 1 ≤ k) (full : length (take k (ranked (ahead low high) t n)) ≡ k) where
  -- no kept item has a smaller low than the last kept
  pub kept_low : (e : ℕ) → among e (take k (ranked (ahead low high) t n)) ≡ true
      → low (last_of 0 (take k (ranked (ahead low high) t n))) ≤ low e
  kept_low e y =
      let last = last_of 0 (take k (ranked (ahead low high) t n)) in
      ⊎_elim
      (λ (same : e ≡ last). rw same (omega arith))
      (λ a. ahead_low low high e last a)
      (kept_each (ahead low high) (ahead_ordering low high) t n k some full e y)

  -- and no passing item that is left out has a greater one
  pub left_low : (d : ℕ) → d < n → t d ≡ true → among d (take k (ranked (ahead low high) t n)) ≡ false
      → low d ≤ low (last_of 0 (take k (ranked (ahead low high) t n)))
  left_low d l y z =
      ahead_low low high (last_of 0 (take k (ranked (ahead low high) t n))) d
      (kept_others (ahead low high) (ahead_ordering low high) t n k some full d l y z)
