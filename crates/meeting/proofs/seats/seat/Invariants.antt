-- `meeting::seats::seat` meets its contract. The loop's invariant: the item stands before each from j on.
-- Assumes nothing.
use mathlib.Core.Path.{◌≡◌}
use mathlib.Core.Bool.{true}
use Prim.Native.Nat.{ℕ, ◌≤◌, ◌<◌}
use lib.ListN.{get_or}
use Rattle.meeting.specs.Clauses.{ahead_of}
use Rattle.meeting.proofs.seats.seat.Given as goal

abbrev pub invariant-loop-j : goal.invariant-loop-j
invariant-loop-j l = (i : ℕ) → l.j ≤ i → i < l.filled → ahead_of l.d l.low l.high (get_or l.picks i 0) (get_or l.lows i 0) (get_or l.highs i 0) ≡ true
