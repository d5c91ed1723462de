-- The record that a contract of `completing` cites.
--     OnlySorted     what a run has done that makes sorted accesses alone, by its rows
-- Assumes nothing.
use Rattle.std.specs.Prelude.{◌≡◌, ℕ, ◌*◌}
use Rattle.meeting.specs.declared.Found.{Found}

-- so many rows, an access of each list in each, all of them sorted
pub record OnlySorted (m p : ℕ) (d : Found) : Type 0 where
  pub rows_are : d.rows ≡ p
  pub sorted_are : d.sorted.0 ≡ p * m
  pub direct_are : d.direct.0 ≡ 0
  pub random_are : d.random.0 ≡ 0
