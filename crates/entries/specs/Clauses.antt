-- The records that the contracts of `entries` cite.
--     poses                  the pose set that is lent
--     Listed, ListNoted      what `walk_list` asks and promises, of one list
-- Assumes nothing.
use Rattle.std.specs.Prelude.{◌≡◌, List, ℕ, ◌+◌, ◌*◌, ◌≤◌, ◌<◌, length, Result}
use Rattle.model.specs.Words.{row}
use Rattle.model.specs.Given.{Poses, place}
use Rattle.model.specs.Refusals.{accepted, in_list}
use Rattle.model.specs.Answers.{told}
use Rattle.poses.specs.declared.refusals.Refusal.{Refusal}
use Rattle.poses.specs.Refusals.{value_of}

-- the pose set that is lent
abbrev pub poses : ℕ → ℕ → List ℕ → List ℕ → Poses
poses m n items scores = record { m = m; n = n; items = items; scores = scores }

-- List i lies within both slices, and a place is lent for each of the n items
pub record Listed (i n : ℕ) (items scores lent : List ℕ) : Type 0 where
  pub list_small : i < 8
  pub n_most : n ≤ 1024
  pub items_reach : i * n + n ≤ length items
  pub scores_reach : i * n + n ≤ length scores
  pub places_lent : length lent ≡ n

-- List i is tested, and where it passes each item's position is noted. How many lists there are does not matter to one of them
pub record ListNoted (i n : ℕ) (items scores : List ℕ) (r : Result (Unit {0}) Refusal) (after : List ℕ) : Type 0 where
  pub answers : (m : ℕ) → value_of r ≡ told (in_list (poses m n items scores) i)
  pub notes : (m : ℕ) → in_list (poses m n items scores) i ≡ accepted → after ≡ row (λ d. place (poses m n items scores) i d + 1) n
