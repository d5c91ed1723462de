-- The least of the k greatest marks, and the start.
--     led_falls              the k greatest fall over any distance
--     above_floor, under_floor       a bar that the last does not pass is passed by fewer than k; a lower one by all k
--     led_bar, led_few       the last tells the highest bar that k marks are above; where it is 0, fewer than k items are met
--     mark_most_top          no mark is above the greatest
--     led_start, marked_start        before any row all marks are 0, and so are the k greatest
-- Assumes nothing.
use Rattle.std.specs.Prelude.{◌≡◌, List, leb, replicate}
use Rattle.std.proofs.Common.{sym, ◌∙◌}
use Rattle.std.proofs.Math.Bool.{Bool}
use Prim.Native.Nat.{ℕ, zero, suc, ◌+◌, ◌-◌, ◌*◌, ◌≤◌, ◌<◌}
use native.Mathlib.Omega.{arith}
use Rattle.std.proofs.Math.Dec.{ltb}
use Rattle.std.proofs.Math.ListN.{get_or}
use Rattle.std.proofs.lemmas.List.{length-replicate}
use borrow.Author.Tests.{leb-true, leb-false, lt-ltb, le-ltb, lt-leb}
use Rattle.laws.specs.Tests.{by_cases, some_none}
use Rattle.laws.specs.Lists.{zeros_at}
use Rattle.laws.specs.Passing.{passing, passing_most, passing_all, passing_none, passing_some}
use Rattle.meeting.specs.Clauses.{View}
use Rattle.halting.specs.Clauses.{Sound, met_of, mark_of, Marked, reach_of, Barred}
use Rattle.raising.specs.Clauses.{Led}

-- entries that fall from one to the next fall over any distance
falls_far : (k : ℕ) (tops : List ℕ) → ((j : ℕ) → suc j < k → get_or tops (suc j) 0 ≤ get_or tops j 0)
    → (j e : ℕ) → j + e < k → get_or tops (j + e) 0 ≤ get_or tops j 0
falls_far k tops falling j zero h =
    let here : j + 0 ≡ j = omega arith in
    rw here (omega arith)
falls_far k tops falling j (suc e) h =
    let next : j + suc e ≡ suc (j + e) = omega arith in
    rw next (omega (arith, falling (j + e) (omega arith), falls_far k tops falling j e (omega arith)))

module _ {n k : ℕ} {marks tops : List ℕ} (led : Led n k marks tops) (some : 1 ≤ k) where
  pub led_falls : (i j : ℕ) → i ≤ j → j < k → get_or tops j 0 ≤ get_or tops i 0
  led_falls i j h most =
      let far : i + (j - i) ≡ j = omega arith in
      rw far at (falls_far k tops led.falling i (j - i) (omega arith))

  pub under_floor : (bar : ℕ) → bar < get_or tops (k - 1) 0 → reach_of k tops bar ≡ k
  unfolding reach_of
  under_floor bar h =
      passing_all (λ j. ltb bar (get_or tops j 0)) k
      (λ j hj. lt-ltb bar (get_or tops j 0) (omega (arith, led_falls j (k - 1) (omega arith) (omega arith))))

  pub above_floor : (bar : ℕ) → get_or tops (k - 1) 0 ≤ bar → reach_of k tops bar < k
  unfolding reach_of passing
  above_floor bar h =
      let next : suc (k - 1) ≡ k = omega arith in
      let t : ℕ → Bool = λ j. ltb bar (get_or tops j 0) in
      rw (← next) (rw (le-ltb bar (get_or tops (k - 1) 0) h) (omega (arith, passing_most t (k - 1))))

  pub led_bar : 1 ≤ get_or tops (k - 1) 0 → Barred n k marks (get_or tops (k - 1) 0 - 1)
  led_bar least =
      let floor = get_or tops (k - 1) 0 in
      let next : suc (floor - 1) ≡ floor = omega arith in
      record {
        reached = omega (arith, led.counts (floor - 1), under_floor (floor - 1) (omega arith));
        not_next = rw next (omega (arith, led.counts floor, above_floor floor (omega arith)));
      }

  pub led_few : get_or tops (k - 1) 0 ≡ 0 → reach_of n marks 0 < k
  led_few none = omega (arith, led.counts 0, above_floor 0 (omega arith))

  pub mark_most_top : (d : ℕ) → d < n → get_or marks d 0 ≤ get_or tops 0 0
  unfolding reach_of
  mark_most_top d small =
      let own = get_or marks d 0 in
      let top = get_or tops 0 0 in
      by_cases (leb own top)
      (λ y. leb-true own top y)
      (λ z.
      let none = passing_none (λ j. ltb top (get_or tops j 0)) k
      (λ j h. le-ltb top (get_or tops j 0) (led_falls 0 j (omega arith) h)) in
      let one = passing_some (λ e. ltb top (get_or marks e 0)) n d small (lt-ltb top own (leb-false own top z)) in
      absurd (omega (arith, led.counts top)))

-- ---- before any row
reach_zeros : (n size bar : ℕ) → reach_of n (replicate size 0) bar ≡ 0
unfolding reach_of
reach_zeros n size bar =
    passing_none (λ d. ltb bar (get_or (replicate size 0) d 0)) n
    (λ d _. rw (zeros_at size d) (le-ltb bar 0 (omega arith)))

pub led_start : (n k : ℕ) → Led n k (replicate 1024 0) (replicate k 0)
led_start n k =
    record {
      tops_long = omega (arith, length-replicate {A = ℕ} k 0);
      falling = λ j _. rw (zeros_at k (suc j), zeros_at k j) (omega arith);
      counts = λ bar. rw (reach_zeros k k bar, reach_zeros n 1024 bar) (omega arith);
    }

-- no item is met before the first row
mark_start : {v : View} → Sound v → (d : ℕ) → d < v.n → mark_of v 0 d ≡ 0
unfolding mark_of met_of
mark_start {v} w d hd =
    rw (some_none (λ i. leb (get_or v.work (i * v.n + d) 0) 0) v.m
    (λ i hi. lt-leb (get_or v.work (i * v.n + d) 0) 0 (w.place_least i d hi hd)))

pub marked_start : {v : View} → Sound v → Marked v 0 (replicate 1024 0)
marked_start w =
    record {
      marks_long = omega (arith, length-replicate {A = ℕ} 1024 0, w.n_most);
      marks_are = λ d hd. zeros_at 1024 d ∙ sym (mark_start w d hd);
    }
