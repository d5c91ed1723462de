-- The record that the contract of `bounded` cites.
--     Finished       what the run of NRA promises
-- Assumes nothing.
use Rattle.std.specs.Prelude.{◌≡◌, List, ℕ}
use Rattle.model.specs.Given.{Poses, Query}
use Rattle.model.specs.Searches.{rows, NRA}
use Rattle.meeting.specs.Clauses.{Ran}

-- The run of NRA: the row after which it stops, and the four slices as they are then
pub record Finished (s : Poses) (q : Query) (k r : ℕ) (picks₀ lows₀ highs₀ tally₀ picks lows highs tally : List ℕ) : Type 0 where
  pub rows_are : r ≡ rows s k (NRA s q)
  pub ran : Ran s k (NRA s q) r picks₀ lows₀ highs₀ tally₀ picks lows highs tally
