-- The shortlist that is written into.
--     IsSameShortlist    its slices are the ones that were lent, and its places as many
-- Assumes nothing.
use Rattle.std.specs.Prelude.{◌≡◌, length}
use Rattle.noting.specs.declared.shortlist.Shortlist.{Shortlist}

-- The slices are the ones that were lent, whatever stands in them by now, and there are as many places
pub record IsSameShortlist (a b : Shortlist) : Type 0 where
  pub count_same : b.count ≡ a.count
  pub picks_same : b.picks.ghost_name ≡ a.picks.ghost_name
  pub lows_same : b.lows.ghost_name ≡ a.lows.ghost_name
  pub picks_long : length b.picks.now ≡ length a.picks.now
  pub lows_long : length b.lows.now ≡ length a.lows.now
