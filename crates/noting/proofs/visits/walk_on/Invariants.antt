-- `noting::visits::walk_on` meets its contract. The loop's invariant: every position before b was visited.
-- Assumes nothing.
use mathlib.Core.Path.{◌≡◌}
use Prim.Native.Nat.{ℕ, ◌+◌, ◌*◌, ◌<◌}
use lib.ListN.{get_or}
use Rattle.noting.proofs.visits.walk_on.Given as goal

abbrev pub invariant-loop-b : goal.invariant-loop-b
invariant-loop-b l = (p : ℕ) → p < l.b → get_or l.tally (l.i * l.set.poses + p) 0 ≡ 0 → ⊥
