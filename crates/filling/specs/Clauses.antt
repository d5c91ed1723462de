-- The records that the contract of `fill` cites.
--     every_fourth        one half of the entries
--     Filling, Filled    what `fill` asks and promises
-- Assumes nothing.
use Rattle.std.specs.Prelude.{◌≡◌, List, ℕ, ◌+◌, ◌*◌, ◌≤◌, length}
use Rattle.model.specs.Words.{row, over}
use Rattle.model.specs.Refusals.{pair}

-- entry j's pair, where the first entry's is at an offset: an entry has four bytes
abbrev pub every_fourth : List ℕ → ℕ → ℕ → ℕ
every_fourth bytes from j = pair bytes (from + 4 * j)

-- `size` such pairs lie within the bytes, and there is a place for each
pub record Filling (bytes : List ℕ) (from size : ℕ) (slice : List ℕ) : Type 0 where
  pub pairs_in : from + 4 * size ≤ length bytes + 2
  pub room : size ≤ length slice

-- the first `size` places hold them, and places beyond stay as lent
abbrev pub Filled : List ℕ → ℕ → ℕ → List ℕ → List ℕ → Type 0
Filled bytes from size lent after = after ≡ over (row (every_fourth bytes from) size) lent
