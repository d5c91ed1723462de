-- The entries of a slice into which a value was slid, and how many of them pass a test.
--     slid_front, slid_seat, slid_moved, slid_behind     the entry in front of the seat, at it, moved one place on, behind the last place
--     slid_length            the length stays
--     passing_slid, slid_reach       one went and one came: how many pass a test; how many are above a bar
-- Assumes nothing.
use mathlib.Core.Path.{◌≡◌, ap, ◌∙◌}
use mathlib.Core.Bool.{Bool}
use mathlib.Core.List.{List, ◌∷◌, ◌++◌}
use Prim.Native.Nat.{ℕ, zero, suc, ◌+◌, ◌-◌, ◌≤◌, ◌<◌}
use native.Mathlib.Omega.{arith}
use lib.Dec.{ltb}
use lib.ListN.{length, get_or, take, drop, length-append, length-drop, get_or-append}
use lib.Seq.{length-take-le, get_or-take, get_or-drop, get_or-append-add, get_or_at}
use Rattle.laws.specs.Tests.{below_suc}
use Rattle.laws.specs.Lookups.{once}
use Rattle.laws.specs.Passing.{passing, passing_same}
use Rattle.meeting.specs.Clauses.{slid}
use Rattle.halting.specs.Clauses.{reach_of}

module _ (seat last x : ℕ) (l : List ℕ) (within : seat ≤ last) (inside : last < length l) where
  abbrev moved : List ℕ
  moved = take (last - seat) (drop seat l)

  front_size : length (take seat l) ≡ seat
  front_size = length-take-le seat l (omega arith)

  moved_size : length moved ≡ last - seat
  moved_size = length-take-le (last - seat) (drop seat l) (rw length-drop (omega arith))

  pub slid_length : length (slid seat last x l) ≡ length l
  unfolding slid
  slid_length =
      let rest = drop (suc last) l in
      rw (length-append (take seat l) (x ∷ (moved ++ rest)), length-append moved rest, front_size, moved_size, length-drop) (omega arith)

  pub slid_front : (j : ℕ) → j < seat → get_or (slid seat last x l) j 0 ≡ get_or l j 0
  unfolding slid
  slid_front j h =
      get_or-append (take seat l) (x ∷ (moved ++ drop (suc last) l)) 0 j (omega (arith, front_size)) ∙ get_or-take seat l j 0 h

  pub slid_seat : get_or (slid seat last x l) seat 0 ≡ x
  unfolding slid
  slid_seat = get_or_at (take seat l) x (moved ++ drop (suc last) l) 0 seat front_size

  -- behind the seat
  slid_after : (e : ℕ) → get_or (slid seat last x l) (seat + suc e) 0 ≡ get_or (moved ++ drop (suc last) l) e 0
  unfolding slid
  slid_after e = rw front_size at (get_or-append-add (take seat l) (x ∷ (moved ++ drop (suc last) l)) (suc e) 0)

  pub slid_moved : (j : ℕ) → seat ≤ j → j < last → get_or (slid seat last x l) (suc j) 0 ≡ get_or l j 0
  slid_moved j least most =
      let place : seat + suc (j - seat) ≡ suc j = omega arith in
      let from : seat + (j - seat) ≡ j = omega arith in
      rw (← place) (slid_after (j - seat))
      ∙ get_or-append moved (drop (suc last) l) 0 (j - seat) (omega (arith, moved_size))
      ∙ get_or-take (last - seat) (drop seat l) (j - seat) 0 (omega arith)
      ∙ get_or-drop seat l (j - seat) 0
      ∙ rw from

  slid_beyond : (e : ℕ) → get_or (slid seat last x l) (suc last + e) 0 ≡ get_or l (suc last + e) 0
  slid_beyond e =
      let place : suc last + e ≡ seat + suc (last - seat + e) = omega arith in
      ap (λ (j : ℕ). get_or (slid seat last x l) j 0) place
      ∙ slid_after (last - seat + e)
      ∙ rw moved_size at (get_or-append-add moved (drop (suc last) l) e 0)
      ∙ get_or-drop (suc last) l e 0

  pub slid_behind : (j : ℕ) → last < j → get_or (slid seat last x l) j 0 ≡ get_or l j 0
  slid_behind j h =
      let from : suc last + (j - suc last) ≡ j = omega arith in
      rw from at (slid_beyond (j - suc last))

-- numbers that pass u are those that pass t, moved one place on from the seat up to the last place
module _ (t u : ℕ → Bool) (seat last : ℕ) (within : seat ≤ last) (front : (j : ℕ) → j < seat → u j ≡ t j)
    (moved_on : (j : ℕ) → seat ≤ j → j < last → u (suc j) ≡ t j) (behind : (j : ℕ) → last < j → u j ≡ t j) where
  passing_moved : (e : ℕ) → seat + e ≤ last → passing u (suc (seat + e)) ≡ passing t (seat + e) + once (u seat)
  unfolding passing
  passing_moved zero h =
      let here : seat + 0 ≡ seat = omega arith in
      rw (here, passing_same u t seat front)
  passing_moved (suc e) h =
      let next : seat + suc e ≡ suc (seat + e) = omega arith in
      let before : passing u (suc (seat + e)) ≡ passing t (seat + e) + once (u seat) = passing_moved e (omega arith) in
      let same : u (suc (seat + e)) ≡ t (seat + e) = moved_on (seat + e) (omega arith) (omega arith) in
      rw (next, same) (omega arith)

  pub passing_slid : (n : ℕ) → last < n → passing u n + once (t last) ≡ passing t n + once (u seat)
  unfolding passing
  passing_slid zero h = absurd (omega arith)
  passing_slid (suc n) h =
      below_suc last n h
      (λ (l : last < n). rw (behind n l) (omega (arith, passing_slid n l)))
      (λ (e : last ≡ n).
      let whole : seat + (last - seat) ≡ n = omega arith in
      let all : passing u (suc n) ≡ passing t n + once (u seat) = rw whole at (passing_moved (last - seat) (omega arith)) in
      rw e (omega arith))

pub slid_reach : (seat last x : ℕ) (l : List ℕ) → seat ≤ last → last < length l → (k bar : ℕ) → last < k
    → reach_of k (slid seat last x l) bar + once (ltb bar (get_or l last 0)) ≡ reach_of k l bar + once (ltb bar x)
unfolding reach_of
slid_reach seat last x l within inside k bar few =
    let s = slid seat last x l in
    rw (ap (ltb bar) (slid_seat seat last x l within inside)) at
    (passing_slid (λ j. ltb bar (get_or l j 0)) (λ j. ltb bar (get_or s j 0)) seat last within
    (λ j h. ap (ltb bar) (slid_front seat last x l within inside j h))
    (λ j least most. ap (ltb bar) (slid_moved seat last x l within inside j least most))
    (λ j h. ap (ltb bar) (slid_behind seat last x l within inside j h)) k few)
