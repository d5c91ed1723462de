-- The loop of `raising::seat`, which goes to the front: each entry from j on is less than x.
-- Assumes nothing.
use Prim.Native.Nat.{ℕ, ◌≤◌, ◌<◌}
use lib.ListN.{get_or}
use Rattle.raising.proofs.seat.Given as goal

abbrev pub invariant-loop-j : goal.invariant-loop-j
invariant-loop-j l = (i : ℕ) → l.j ≤ i → i < l.end → get_or l.tops i 0 < l.x
