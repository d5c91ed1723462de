-- What is lent, as the model has it.
--     set_of         a pose set
--     lent_of        everything that a search is lent
--     IsSameRoom     a room's slices are the ones that were lent
-- Assumes nothing.
use Rattle.std.specs.Prelude.{◌≡◌}
use Rattle.model.specs.Given.{Poses}
use Rattle.model.specs.Refusals.{Lent}
use Rattle.poses.specs.declared.PoseSet.{PoseSet}
use Rattle.poses.specs.declared.Query.{Query}
use Rattle.poses.specs.declared.Room.{Room}

-- m lists of n items, in the slices that are lent
abbrev pub set_of : PoseSet → Poses
set_of s = record { m = s.lists; n = s.poses; items = s.items.now; scores = s.scores.now }

-- everything that a search is lent: a pose set, a query and a room
abbrev pub lent_of : PoseSet → Query → Room → Lent
lent_of s q r =
    record {
      m = s.lists;
      n = s.poses;
      rule = q.rule;
      k = q.count;
      weights = q.weights.now;
      items = s.items.now;
      scores = s.scores.now;
      picks = r.picks.now;
      lows = r.lows.now;
      highs = r.highs.now;
      tally = r.tally.now;
      work = r.work.now;
    }

-- The slices are the ones that were lent, whatever stands in them by now
pub record IsSameRoom (a b : Room) : Type 0 where
  pub picks_same : b.picks.ghost_name ≡ a.picks.ghost_name
  pub lows_same : b.lows.ghost_name ≡ a.lows.ghost_name
  pub highs_same : b.highs.ghost_name ≡ a.highs.ghost_name
  pub tally_same : b.tally.ghost_name ≡ a.tally.ghost_name
  pub work_same : b.work.ghost_name ≡ a.work.ghost_name
