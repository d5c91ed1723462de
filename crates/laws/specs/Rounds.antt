-- The rounds of BPA2 over a valid pose set.
--     none_met                   no access, no item met
--     by_turn                    a turn at a list by its two cases
--     by_turn                    a turn passes the list over, or looks up the item after its best position
--     Turns                      lookups by direct accesses, one for each item met, and no item looked up twice
--     turn_next, round_turns, rounds_turns   a turn at a list keeps this; so it holds in the middle of a round and after any number
--     unvisited_item             the item at an unvisited position was never looked up
--     rounds_once                no position of any list is visited twice
--     visited_next, visited_round    what was visited stays visited
--     next_visits                a turn at a list visits the position after its best one
--     rounds_covers              after r rounds the first r positions of every list are visited
--     rounds_length              r rounds are at most r * (m * m) accesses
-- Assumes nothing.
use Rattle.std.specs.Prelude.{◌≡◌, true, false, ◌≢◌, List, [], ◌++◌, eqb, leb, ltb}
use Rattle.std.proofs.Math.Path.{refl}
use Rattle.std.proofs.Common.{sym, ap, ◌∙◌, suc-mul, not-suc-le-zero, eqb-true, eq-eqb, ltb-true, ltb-false}
use Prim.Native.Nat.{ℕ, zero, suc, ◌+◌, ◌*◌, ◌≤◌, ◌<◌}
use native.Mathlib.Omega.{arith}
use Rattle.std.proofs.Math.ListN.{length, length-append}
use Rattle.std.proofs.lemmas.Bool.{eqb-false, lt-leb}
use Rattle.model.specs.Given.{Poses, item, place}
use Rattle.model.specs.Accesses.{Access, direct, lookup, next, round, rounds, times, visited, met, best}
use Rattle.laws.specs.Tests.{by_cases, below_suc, some_none}
use Rattle.laws.specs.Accepted.{Valid}
use Rattle.laws.specs.Lookups.{times_append, lookup_times, times_none}
use Rattle.laws.specs.Meetings.{Whole, met_is, met_more, lookup_at}
use Rattle.laws.specs.Passing.{passing, passing_none, passing_more}
use Rattle.laws.specs.Visits.{Covers, least_visited, unvisited, visited_more, best_most, best_visited, best_free, best_reaches}
use Rattle.laws.specs.Looked.{Looked, looked_none, looked_more, looked_whole, lookup_length}

pub none_met : (s : Poses) (d : ℕ) → met s [] d ≡ false
unfolding met visited
none_met s d =
    some_none (λ i. leb 1 (times [] i (place s i d))) s.m
    (λ i _. let none = times_none i (place s i d) in lt-leb 1 (times [] i (place s i d)) (omega arith))

-- a turn passes the list over, or looks up the item after its best position
pub by_turn : (X : List Access → Type 0) (s : Poses) (tr : List Access) (i : ℕ) → (best s tr i ≡ s.n → X tr)
    → (best s tr i < s.n → X (tr ++ lookup s direct i (best s tr i))) → X (next s tr i)
unfolding next
by_turn X s tr i over look =
    by_cases (eqb (best s tr i) s.n)
    (λ (y : eqb (best s tr i) s.n ≡ true). rw y (over (eqb-true (best s tr i) s.n y)))
    (λ (z : eqb (best s tr i) s.n ≡ false).
    let other : best s tr i ≢ s.n = eqb-false (best s tr i) s.n z in
    rw z (look (omega (arith, best_most s tr i))))

module _ (s : Poses) (v : Valid s) where
  pub record Turns (tr : List Access) : Type 0 where
    pub looked : Looked s direct tr (passing (met s tr) s.n)
    pub once_each : (d : ℕ) → d < s.n → times tr 0 (place s 0 d) ≤ 1

  turns_none : Turns []
  turns_none =
      let unmet : passing (met s []) s.n ≡ 0 = passing_none (met s []) s.n (λ d hd. none_met s d) in
      record { looked = rw unmet looked_none; once_each = λ d hd. omega (arith, times_none 0 (place s 0 d)) }

  -- the item at an unvisited position was never looked up
  pub unvisited_item : (tr : List Access) (i p : ℕ) → i < s.m → p < s.n → Whole s tr → visited tr i p ≡ false
      → times tr 0 (place s 0 (item s i p)) ≡ 0
  unvisited_item tr i p hi hp w z =
      sym (w.alike i (item s i p) hi (v.is_item i p hi hp))
      ∙ ap (times tr i) (v.place_of_item i p hi hp) ∙ unvisited tr i p z

  turn_looks : (tr : List Access) (i : ℕ) → i < s.m → Turns tr → best s tr i < s.n
      → Turns (tr ++ lookup s direct i (best s tr i))
  turn_looks tr i hi t hp =
      let p = best s tr i in
      let d = item s i p in
      let w = looked_whole s v t.looked in
      let new : times tr 0 (place s 0 d) ≡ 0 = unvisited_item tr i p hi hp w (best_free s tr i hp) in
      let unmet : met s tr d ≡ false =
      met_is s v w d (v.is_item i p hi hp) ∙ lt-leb 1 (times tr 0 (place s 0 d)) (omega arith) in
      let more : passing (met s (tr ++ lookup s direct i p)) s.n ≡ suc (passing (met s tr) s.n) =
      passing_more (met s tr) (met s (tr ++ lookup s direct i p)) s.n d (v.is_item i p hi hp) unmet
      (λ e he. met_more s v w direct i p e hi hp he) in
      record {
        looked = rw more (looked_more i p hi hp t.looked);
        once_each = λ e he.
            rw (times_append tr (lookup s direct i p) 0 (place s 0 e))
            (rw (lookup_at s v direct i p 0 e hi hp v.size.m_least he)
            (by_cases (eqb d e)
            (λ (y : eqb d e ≡ true).
            let same : d ≡ e = eqb-true d e y in
            let none : times tr 0 (place s 0 e) ≡ 0 = rw same at new in
            rw (y, none) (omega arith))
            (λ (z : eqb d e ≡ false). rw z (omega (arith, t.once_each e he)))));
      }

  pub turn_next : (tr : List Access) (i : ℕ) → i < s.m → Turns tr → Turns (next s tr i)
  turn_next tr i hi t = by_turn Turns s tr i (λ _. t) (turn_looks tr i hi t)

  pub round_turns : (tr : List Access) (i : ℕ) → i ≤ s.m → Turns tr → Turns (round s tr i)
  unfolding round
  round_turns tr zero hi t = t
  round_turns tr (suc i) hi t = turn_next (round s tr i) i hi (round_turns tr i (omega arith) t)

  pub rounds_turns : (r : ℕ) → Turns (rounds s r)
  unfolding rounds
  rounds_turns zero = turns_none
  rounds_turns (suc r) = round_turns (rounds s r) s.m (omega arith) (rounds_turns r)

  -- no position is visited twice
  pub rounds_once : (r i p : ℕ) → i < s.m → p < s.n → times (rounds s r) i p ≤ 1
  rounds_once r i p hi hp =
      let t = rounds_turns r in
      let d = item s i p in
      let stands : place s i d ≡ p = v.place_of_item i p hi hp in
      let alike : times (rounds s r) i (place s i d) ≡ times (rounds s r) 0 (place s 0 d) =
      (looked_whole s v t.looked).alike i d hi (v.is_item i p hi hp) in
      let here : times (rounds s r) i p ≡ times (rounds s r) 0 (place s 0 d) = rw stands at alike in
      omega (arith, t.once_each d (v.is_item i p hi hp))

-- ---- how far the rounds reach
module _ (s : Poses) where
  pub visited_next : (tr : List Access) (i j q : ℕ) → visited tr j q ≡ true → visited (next s tr i) j q ≡ true
  visited_next tr i j q y =
      by_turn (λ more. visited more j q ≡ true) s tr i
      (λ _. y) (λ _. visited_more tr (lookup s direct i (best s tr i)) j q y)

  pub visited_round : (tr : List Access) (i j q : ℕ) → visited tr j q ≡ true → visited (round s tr i) j q ≡ true
  unfolding round
  visited_round tr zero j q y = y
  visited_round tr (suc i) j q y = visited_next (round s tr i) i j q (visited_round tr i j q y)

module _ (s : Poses) (v : Valid s) where
  -- after a turn at list i the position after its best one is visited too
  pub next_visits : (tr : List Access) (i q : ℕ) → i < s.m → q < s.n → q ≤ best s tr i
      → visited (next s tr i) i q ≡ true
  next_visits tr i q hi hq l =
      by_turn (λ more. visited more i q ≡ true) s tr i
      (λ e. best_visited s tr i q (omega arith))
      (λ h.
      let p = best s tr i in
      by_cases (ltb q p)
      (λ y. visited_more tr (lookup s direct i p) i q (best_visited s tr i q (ltb-true q p y)))
      (λ z.
      let here : q ≡ p = omega (arith, ltb-false q p z) in
      let found : times (lookup s direct i p) i p ≡ 1 =
      rw (lookup_times s v direct i p i p hi h hi, v.place_of_item i p hi h, eq-eqb p p refl) in
      let seen : 1 ≤ times (tr ++ lookup s direct i p) i p = omega (arith, times_append tr (lookup s direct i p) i p) in
      rw here (least_visited (tr ++ lookup s direct i p) i p seen)))

  round_covers : (tr : List Access) (r i : ℕ) → r < s.n → i ≤ s.m → Covers s tr r → (j q : ℕ) → j < i → q < suc r
      → visited (round s tr i) j q ≡ true
  unfolding round
  round_covers tr r zero hr hi c j q hj hq = absurd (not-suc-le-zero hj)
  round_covers tr r (suc i) hr hi c j q hj hq =
      below_suc j i hj
      (λ (l : j < i). visited_next s (round s tr i) i j q (round_covers tr r i hr (omega arith) c j q l hq))
      (λ (e : j ≡ i).
      let deep : r ≤ best s (round s tr i) i =
      best_reaches s (round s tr i) i r (omega arith) (λ p l. visited_round s tr i i p (c i p hi l)) in
      rw e (next_visits (round s tr i) i q hi (omega arith) (omega arith)))

  pub rounds_covers : (r : ℕ) → r ≤ s.n → Covers s (rounds s r) r
  unfolding rounds
  rounds_covers zero hr = λ i q hi hq. absurd (not-suc-le-zero hq)
  rounds_covers (suc r) hr = round_covers (rounds s r) r s.m hr (omega arith) (rounds_covers r (omega arith))

  -- ---- how many accesses
  round_length : (tr : List Access) (i : ℕ) → i ≤ s.m → length (round s tr i) ≤ length tr + i * s.m
  unfolding round
  round_length tr zero hi = omega arith
  round_length tr (suc i) hi =
      let before = round_length tr i (omega arith) in
      by_turn (λ more. length more ≤ length tr + suc i * s.m) s (round s tr i) i
      (λ _. rw (suc-mul i s.m) (omega arith))
      (λ _.
      let p = best s (round s tr i) i in
      rw (suc-mul i s.m, length-append (round s tr i) (lookup s direct i p))
      (omega (arith, lookup_length s v direct i p refl hi)))

  pub rounds_length : (r : ℕ) → length (rounds s r) ≤ r * (s.m * s.m)
  unfolding rounds
  rounds_length zero = omega arith
  rounds_length (suc r) =
      let last = round_length (rounds s r) s.m (omega arith) in
      rw (suc-mul r (s.m * s.m)) (omega (arith, rounds_length r))
