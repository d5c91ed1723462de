-- What a search promises of its answer and of the five slices that it may write.
--     Searched       what each of the four searches promises, at every input
--     KeepsLengths   a room's slices are as long as before
-- Assumes nothing.
use Rattle.std.specs.Prelude.{◌≡◌, List, ℕ, length}
use Rattle.poses.specs.declared.Room.{Room}
use Rattle.model.specs.Given.{Poses, Query}
use Rattle.model.specs.Searches.{Search}
use Rattle.model.specs.Refusals.{Lent}
use Rattle.model.specs.Answers.{answer, slices}
use Rattle.answers.specs.declared.Answer.{Answer}

-- The search r over what is lent, refused or not: the answer's seven numbers, and each slice as the search leaves it, are the model's
pub record Searched (r : Poses → Query → Search) (l : Lent) (a : Answer) (picks lows highs tally work : List ℕ) : Type 0 where
  pub number_is : a.number ≡ (answer r l).number
  pub list_is : a.list ≡ (answer r l).list
  pub position_is : a.position ≡ (answer r l).position
  pub rows_are : a.rows ≡ (answer r l).rows
  pub sorted_are : a.sorted.0 ≡ (answer r l).sorted
  pub direct_are : a.direct.0 ≡ (answer r l).direct
  pub random_are : a.random.0 ≡ (answer r l).random
  pub picks_are : picks ≡ (slices r l).picks
  pub lows_are : lows ≡ (slices r l).lows
  pub highs_are : highs ≡ (slices r l).highs
  pub tally_is : tally ≡ (slices r l).tally
  pub work_is : work ≡ (slices r l).work

-- A room's slices are as long as before
pub record KeepsLengths (a b : Room) : Type 0 where
  pub picks_long : length b.picks.now ≡ length a.picks.now
  pub lows_long : length b.lows.now ≡ length a.lows.now
  pub highs_long : length b.highs.now ≡ length a.highs.now
  pub tally_long : length b.tally.now ≡ length a.tally.now
  pub work_long : length b.work.now ≡ length a.work.now
