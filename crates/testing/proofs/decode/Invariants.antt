-- `testing::decode`, the loop's invariant: the first i weights are decoded, the rest are 0.
-- Assumes nothing.
use mathlib.Core.Path.{◌≡◌}
use Prim.Native.Nat.{ℕ, ◌≤◌, ◌<◌}
use lib.ListN.{length, get_or}
use Rattle.model.specs.Refusals.{weight_of}
use Rattle.testing.proofs.decode.Given as goal

abbrev pub invariant-loop-i : goal.invariant-loop-i
invariant-loop-i l =
    (length l.numbers ≡ 8) × ((j : ℕ) → j < l.i → get_or l.numbers j 0 ≡ weight_of l.weights j)
    × ((j : ℕ) → l.i ≤ j → get_or l.numbers j 0 ≡ 0)
