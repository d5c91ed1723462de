-- The records that the contracts of `lists` cite.
--     ListsChecked           what `check_lists` promises: the answer, and the work slice as it leaves it
--     Lying, ListsNoted      what `note_lists` asks and promises, of all lists, and its walk too
-- Assumes nothing.
use Rattle.std.specs.Prelude.{◌≡◌, List, ℕ, ◌*◌, ◌≤◌, length, drop, Result}
use Rattle.model.specs.Words.{over}
use Rattle.model.specs.Given.{Poses}
use Rattle.model.specs.Refusals.{accepted, in_lists}
use Rattle.model.specs.Answers.{told, places, checked, checked_work}
use Rattle.poses.specs.declared.refusals.Refusal.{Refusal}
use Rattle.poses.specs.Refusals.{value_of}
use Rattle.passing.specs.Clauses.{Within}

-- The list check, at every input: it answers what the model answers, and leaves its work slice as the model says
pub record ListsChecked (s : Poses) (work : List ℕ) (r : Result (Unit {0}) Refusal) (after : List ℕ) : Type 0 where
  pub answers : value_of r ≡ checked s work
  pub leaves : after ≡ checked_work s work

-- m lists of n entries lie within both slices and the work slice
pub record Lying (s : Poses) (work : List ℕ) : Type 0 where
  pub within : Within s
  pub work_long : s.m * s.n ≤ length work

-- All lists are tested, and where they pass each item's position in each list is noted; places beyond stay as lent
pub record ListsNoted (s : Poses) (lent : List ℕ) (r : Result (Unit {0}) Refusal) (after : List ℕ) : Type 0 where
  pub answers : value_of r ≡ told (in_lists s)
  pub notes : in_lists s ≡ accepted → after ≡ over (places s) lent
  pub beyond : drop (s.m * s.n) after ≡ drop (s.m * s.n) lent
