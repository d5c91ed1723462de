-- The k greatest of n marks once one of the marks is raised. All goes by how many are above a bar: nothing tells whose mark an entry is.
--     above_is, above_yes, above_no      1 where a number is above a bar, as a difference; where it is, and where it is not
--     reach_falls, reach_most, reach_set     how many marks are above a bar: above a higher one, at most all, with one mark changed
--     own_entry, gone_is     a mark above the least of the k greatest is one of them; the entry that goes is that, or the least
--     raised_under           the new mark is not above the least: the k greatest stay
--     raised_in              else they are those with the new mark slid in
--     raised_stays, raised_slid      both as `Raised`
-- Assumes nothing.
use mathlib.Core.Path.{◌≡◌, refl, sym, ap, ◌∙◌}
use mathlib.Core.Bool.{true, false}
use mathlib.Core.Logic.{◌≢◌}
use mathlib.Core.List.{List}
use Prim.Native.Nat.{ℕ, suc, ◌+◌, ◌-◌, ◌≤◌, ◌<◌, min, max}
use native.Mathlib.Omega.{arith}
use lib.Dec.{eqb, leb, ltb}
use lib.ListN.{length, get_or, set}
use lib.Seq.{get_or-set_same, get_or-set_other}
use borrow.Author.Tests.{eqb-true, eqb-false, leb-true, leb-false, ltb-true, ltb-false, lt-ltb, le-ltb}
use Rattle.laws.specs.Tests.{by_cases}
use Rattle.laws.specs.Lookups.{once}
use Rattle.laws.specs.Passing.{passing_most, passing_same, passing_wider}
use Rattle.meeting.specs.Clauses.{slid}
use Rattle.halting.specs.Clauses.{reach_of}
use Rattle.raising.specs.Clauses.{Led, SeatBehind, Raised}
use Rattle.raising.specs.Floor.{led_falls, under_floor, above_floor}
use Rattle.raising.proofs.Slid.{slid_length, slid_front, slid_seat, slid_moved, slid_behind, slid_reach, passing_slid}

-- ---- how many are above a bar
above_is : (bar x : ℕ) → once (ltb bar x) ≡ min 1 (x - bar)
above_is bar x =
    by_cases (ltb bar x)
    (λ (y : ltb bar x ≡ true). rw y (omega (arith, ltb-true bar x y)))
    (λ (z : ltb bar x ≡ false). rw z (omega (arith, ltb-false bar x z)))

above_yes : (bar x : ℕ) → bar < x → once (ltb bar x) ≡ 1
above_yes bar x h = rw (lt-ltb bar x h)

above_no : (bar x : ℕ) → x ≤ bar → once (ltb bar x) ≡ 0
above_no bar x h = rw (le-ltb bar x h)

reach_falls : (n bar : ℕ) (marks : List ℕ) → reach_of n marks (suc bar) ≤ reach_of n marks bar
unfolding reach_of
reach_falls n bar marks =
    passing_wider (λ d. ltb (suc bar) (get_or marks d 0)) (λ d. ltb bar (get_or marks d 0)) n
    (λ d _ y. lt-ltb bar (get_or marks d 0) (omega (arith, ltb-true (suc bar) (get_or marks d 0) y)))

reach_most : (n bar : ℕ) (marks : List ℕ) → reach_of n marks bar ≤ n
unfolding reach_of
reach_most n bar marks = passing_most (λ d. ltb bar (get_or marks d 0)) n

reach_set : (n d new bar : ℕ) (marks : List ℕ) → n ≤ length marks → d < n
    → reach_of n (set marks d new) bar + once (ltb bar (get_or marks d 0)) ≡ reach_of n marks bar + once (ltb bar new)
unfolding reach_of
reach_set n d new bar marks long h =
    let other : (j : ℕ) → j ≢ d → ltb bar (get_or (set marks d new) j 0) ≡ ltb bar (get_or marks j 0) =
    λ j apart. ap (ltb bar) (get_or-set_other marks d j new 0 apart) in
    rw (ap (ltb bar) (get_or-set_same marks d new 0 (omega arith))) at
    (passing_slid (λ j. ltb bar (get_or marks j 0)) (λ j. ltb bar (get_or (set marks d new) j 0)) d d (omega arith)
    (λ j l. other j (λ e. omega arith))
    (λ j least most. absurd (omega arith))
    (λ j l. other j (λ e. omega arith)) n h)

-- ---- item d's mark and the k greatest
module _ {n k : ℕ} {marks tops : List ℕ} (led : Led n k marks tops) (some : 1 ≤ k) (long : n ≤ length marks) (d : ℕ) (small : d < n) where
  abbrev floor : ℕ
  floor = get_or tops (k - 1) 0

  abbrev old : ℕ
  old = get_or marks d 0

  -- no entry of the k greatest is the old mark: above it are as many as above one less
  no_entry : (last : ℕ) → SeatBehind old k tops (suc last) → old < get_or tops last 0 → (bar : ℕ) → suc bar ≡ old
      → reach_of k tops bar ≡ reach_of k tops old
  unfolding reach_of
  no_entry last behind over bar next =
      passing_same (λ j. ltb bar (get_or tops j 0)) (λ j. ltb old (get_or tops j 0)) k
      (λ j h.
      by_cases (leb j last)
      (λ y.
      let more = led_falls led some j last (leb-true j last y) (omega (arith, behind.seat_most)) in
      lt-ltb bar (get_or tops j 0) (omega arith) ∙ sym (lt-ltb old (get_or tops j 0) (omega arith)))
      (λ z.
      let less = behind.rest_less j (leb-false j last z) h in
      le-ltb bar (get_or tops j 0) (omega arith) ∙ sym (le-ltb old (get_or tops j 0) (omega arith))))

  -- but it is one of the marks
  one_more : (bar : ℕ) → suc bar ≡ old → reach_of n marks old < reach_of n marks bar
  one_more bar next =
      let rest = set marks d 0 in
      let falls : reach_of n rest old ≤ reach_of n rest bar = rw next at (reach_falls n bar rest) in
      omega (
        arith,
        reach_set n d 0 bar marks long small,
        reach_set n d 0 old marks long small,
        above_yes bar old (omega arith),
        above_no old old (omega arith),
        above_no bar 0 (omega arith),
        above_no old 0 (omega arith),
      )

  -- so where it is above the least, an entry is the old mark, and it is the last that is not less
  own_entry : (last : ℕ) → SeatBehind old k tops (suc last) → floor < old → get_or tops last 0 ≡ old
  own_entry last behind above =
      by_cases (ltb old (get_or tops last 0))
      (λ y.
      let bar = old - 1 in
      let next : suc bar ≡ old = omega arith in
      absurd
      (omega (
        arith,
        no_entry last behind (ltb-true old (get_or tops last 0) y) bar next,
        one_more bar next,
        led.counts bar,
        led.counts old,
        above_floor led some bar (omega arith),
        above_floor led some old (omega arith),
      )))
      (λ z. omega (arith, ltb-false old (get_or tops last 0) z, behind.front_not_less last refl))

  -- the entry that goes: the old mark's own where it is among the k greatest, else the least
  gone_is : (last : ℕ) → SeatBehind old k tops (suc last) → get_or tops last 0 ≡ max floor old
  gone_is last behind =
      by_cases (ltb floor old)
      (λ y.
      let above = ltb-true floor old y in
      omega (arith, own_entry last behind above))
      (λ z.
      let under = ltb-false floor old z in
      let at_end : last ≡ k - 1 =
      by_cases (ltb last (k - 1))
      (λ y. absurd (omega (arith, behind.rest_less (k - 1) (ltb-true last (k - 1) y) (omega arith))))
      (λ w. omega (arith, ltb-false last (k - 1) w, behind.seat_most)) in
      rw at_end (omega arith))

  module _ (new : ℕ) (rises : old ≤ new) where
    -- the new mark is not above the least
    raised_under : new ≤ floor → Led n k (set marks d new) tops
    raised_under under =
        record {
          tops_long = led.tops_long;
          falling = led.falling;
          counts = λ bar.
              let moved = reach_set n d new bar marks long small in
              by_cases (ltb bar floor)
              (λ y. omega (arith, led.counts bar, under_floor led some bar (ltb-true bar floor y), above_is bar old, above_is bar new))
              (λ z. omega (arith, led.counts bar, ltb-false bar floor z, above_is bar old, above_is bar new));
        }

    -- it is, and is slid in
    module _ (at last : ℕ) (behind : SeatBehind old k tops (suc last)) (seat : SeatBehind new last tops at) (over : floor < new) where
      abbrev inside : last < length tops
      inside = omega (arith, behind.seat_most, led.tops_long)

      abbrev raised : List ℕ
      raised = slid at last new tops

      in_front : (j : ℕ) → j < at → get_or raised j 0 ≡ get_or tops j 0
      in_front = slid_front at last new tops seat.seat_most inside

      at_seat : get_or raised at 0 ≡ new
      at_seat = slid_seat at last new tops seat.seat_most inside

      moved_on : (j : ℕ) → at ≤ j → j < last → get_or raised (suc j) 0 ≡ get_or tops j 0
      moved_on = slid_moved at last new tops seat.seat_most inside

      beyond : (j : ℕ) → last < j → get_or raised j 0 ≡ get_or tops j 0
      beyond = slid_behind at last new tops seat.seat_most inside

      seat_more : get_or tops at 0 ≤ new
      seat_more =
          by_cases (ltb at last)
          (λ y. omega (arith, seat.rest_less at (omega arith) (ltb-true at last y)))
          (λ z.
          let here : at ≡ last = omega (arith, ltb-false at last z, seat.seat_most) in
          rw here (omega (arith, gone_is last behind)))

      raised_counts : (bar : ℕ) → reach_of k raised bar ≡ min k (reach_of n (set marks d new) bar)
      raised_counts bar =
          let gone = get_or tops last 0 in
          let gone_max = gone_is last behind in
          let changed = reach_set n d new bar marks long small in
          let slides = slid_reach at last new tops seat.seat_most inside k bar behind.seat_most in
          let most = reach_most k bar raised in
          by_cases (ltb bar floor)
          (λ y.
          let under = ltb-true bar floor y in
          omega (
            arith,
            led.counts bar,
            under_floor led some bar under,
            above_yes bar gone (omega arith),
            above_yes bar new (omega arith),
            above_is bar old,
          ))
          (λ z.
          let over = ltb-false bar floor z in
          let same : once (ltb bar gone) ≡ once (ltb bar old) = omega (arith, above_is bar gone, above_is bar old) in
          omega (arith, led.counts bar, above_floor led some bar over))

      -- no entry is less than before
      raised_more : (j : ℕ) → j < k → get_or tops j 0 ≤ get_or raised j 0
      raised_more j h =
          by_cases (ltb j at)
          (λ y. omega (arith, in_front j (ltb-true j at y)))
          (λ z.
          by_cases (ltb last j)
          (λ y. omega (arith, beyond j (ltb-true last j y)))
          (λ w.
          by_cases (eqb j at)
          (λ y.
          let here : j ≡ at = eqb-true j at y in
          rw here (omega (arith, at_seat, seat_more)))
          (λ x.
          let apart : j ≢ at = eqb-false j at x in
          let before : suc (j - 1) ≡ j = omega (arith, ltb-false j at z) in
          let from = moved_on (j - 1) (omega (arith, ltb-false j at z)) (omega (arith, ltb-false last j w)) in
          omega (arith, rw before at from, led_falls led some (j - 1) j (omega arith) h))))

      raised_falls : (j : ℕ) → suc j < k → get_or raised (suc j) 0 ≤ get_or raised j 0
      raised_falls j h =
          by_cases (leb at j)
          (λ y.
          by_cases (ltb j last)
          (λ l. omega (arith, moved_on j (leb-true at j y) (ltb-true j last l), raised_more j (omega arith)))
          (λ l. omega (arith, beyond (suc j) (omega (arith, ltb-false j last l)), led.falling j h, raised_more j (omega arith))))
          (λ z.
          let same = in_front j (leb-false at j z) in
          by_cases (ltb (suc j) at)
          (λ l. omega (arith, in_front (suc j) (ltb-true (suc j) at l), led.falling j h))
          (λ l.
          let here : suc j ≡ at = omega (arith, ltb-false (suc j) at l, leb-false at j z) in
          rw here (omega (arith, at_seat, seat.front_not_less j here))))

      raised_in : Led n k (set marks d new) raised
      raised_in =
          record {
            tops_long = rw (slid_length at last new tops seat.seat_most inside) led.tops_long;
            falling = raised_falls;
            counts = raised_counts;
          }

-- ---- of any marks
pub raised_stays : {k old new : ℕ} {tops : List ℕ} → 1 ≤ k → new ≤ get_or tops (k - 1) 0 → Raised k old new tops tops
raised_stays {k} {old} {new} some under =
    record { raises = λ n d marks long small is rises led. raised_under led some long d small new (omega arith) under }

pub raised_slid : {k old new at behind : ℕ} {tops : List ℕ} → 1 ≤ k → get_or tops (k - 1) 0 < new → 1 ≤ behind
    → SeatBehind old k tops behind → SeatBehind new (behind - 1) tops at → Raised k old new tops (slid at (behind - 1) new tops)
raised_slid {k} {old} {new} {at} {behind} {tops} some over one back seat =
    let next : suc (behind - 1) ≡ behind = omega arith in
    record {
      raises = λ n d marks long small is rises led.
          let own : SeatBehind (get_or marks d 0) k tops (suc (behind - 1)) = rw (is, next) back in
          raised_in led some long d small new (omega arith) at (behind - 1) own seat over;
    }
