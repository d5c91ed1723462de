-- A weight above 1,000, where one is looked for.
--     heavy_found        it is found
-- Assumes nothing.
use mathlib.Core.Path.{◌≡◌}
use mathlib.Core.Bool.{true}
use mathlib.Core.List.{List}
use Prim.Native.Nat.{ℕ, ◌*◌, ◌<◌}
use lib.Dec.{ltb}
use borrow.Author.Tests.{lt-ltb}
use Rattle.model.specs.Words.{some_below}
use Rattle.model.specs.Refusals.{pair, weight_of}
use Rattle.laws.specs.Tests.{some_hit}

pub heavy_found : (b : List ℕ) (m i : ℕ) → i < m → 1000 < pair b (2 * i) → some_below (λ j. ltb 1000 (weight_of b j)) m ≡ true
unfolding weight_of
heavy_found b m i inside heavy = some_hit (λ j. ltb 1000 (pair b (2 * j))) m i inside (lt-ltb 1000 (pair b (2 * i)) heavy)
