-- The record that the contracts of `fields` cite, and those of all that writes text.
--     Appended       text written into a slice from a place on, and nothing else changed
-- Assumes nothing.
use Rattle.std.specs.Prelude.{◌≡◌, List, ◌++◌, ℕ, ◌+◌, ◌≤◌, length, take, drop}

-- The text stands in the slice from `at` up to `end`; what stood before `at` and from `end` on stays as lent
pub record Appended (text before : List ℕ) (at : ℕ) (after : List ℕ) (end : ℕ) : Type 0 where
  pub ends : end ≡ at + length text
  pub within : end ≤ length before
  pub holds : after ≡ take at before ++ (text ++ drop end before)
