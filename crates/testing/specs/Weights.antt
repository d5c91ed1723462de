-- The weights' bytes.
--     weight_past        past the last weight there is none
-- Assumes nothing.
use Rattle.std.specs.Prelude.{◌≡◌, List, ℕ, ◌+◌, ◌*◌, ◌≤◌, length}
use Rattle.std.proofs.Common.{arith}
use Rattle.std.proofs.Math.ListN.{get_or-eq_default}
use Rattle.model.specs.Refusals.{pair, weight_of}

-- past the last weight there is none
pub weight_past : (b : List ℕ) (m i : ℕ) → length b ≡ 2 * m → m ≤ i → weight_of b i ≡ 0
unfolding weight_of pair
weight_past b m i e h = rw (get_or-eq_default b 0 {n = 2 * i} (omega arith), get_or-eq_default b 0 {n = 2 * i + 1} (omega arith))
