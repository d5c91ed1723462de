-- The records that the contracts of `sweeps` cite.
--     Greatest   what `greatest` promises: the greatest of the numbers
--     Clear      what `note_items` asks: a place for each item, and nothing noted yet
-- Assumes nothing.
use Rattle.std.specs.Prelude.{◌≡◌, List, ℕ, ◌≤◌, ◌<◌, ltb, length, get_or, replicate}
use Rattle.model.specs.Words.{some_below}

-- A bar is below the greatest number just where it is below one of the numbers
pub record Greatest (numbers : List ℕ) (r : ℕ) : Type 0 where
  pub above : (bar : ℕ) → ltb bar r ≡ some_below (λ q. ltb bar (get_or numbers q 0)) (length numbers)

-- Every item has a place, no position is too large to be noted, and nothing is noted yet
pub record Clear (items places : List ℕ) : Type 0 where
  pub few : length items ≤ 1024
  pub placed : (q : ℕ) → q < length items → get_or items q 0 < length places
  pub empty : places ≡ replicate (length places) 0
