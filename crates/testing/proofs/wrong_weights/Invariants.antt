-- `testing::wrong_weights`, the loop's invariant: the first i weights are at most 1,000.
-- Assumes nothing.
use mathlib.Core.Path.{◌≡◌}
use mathlib.Core.Bool.{false}
use Prim.Native.Nat.{ℕ, ◌<◌}
use lib.Dec.{ltb}
use Rattle.model.specs.Refusals.{weight_of}
use Rattle.testing.proofs.wrong_weights.Given as goal

abbrev pub invariant-loop-i : goal.invariant-loop-i
invariant-loop-i l = (j : ℕ) → j < l.i → ltb 1000 (weight_of l.weights j) ≡ false
