-- The state of TA, BPA and BPA2: the slices, against the accesses made so far.
--     ranking            the items met, by score falling, then item rising
--     State              the shortlist holds the first of them with their scores, and the tally slice the tally
--     Goes               a step: whatever was lent, from the state after some accesses to the state after more
--     Meeting, Met       what meeting an item asks and promises; `set_with` are the lists with whatever items
--     Standing           the state after some accesses, over the slices themselves
--     Looking, Turned    what a turn of BPA2 at a list asks and promises
--     VisitedUpTo        positions up to which each list was visited
--     Rounding, Rounded  what a round of BPA2 asks and promises
-- Assumes nothing.
use Rattle.std.specs.Prelude.{◌≡◌, List, ◌++◌, ℕ, ◌+◌, ◌*◌, ◌≤◌, ◌<◌, length, get_or, take}
use Rattle.model.specs.Words.{over}
use Rattle.model.specs.Given.{Poses, Query, item, total}
use Rattle.model.specs.Accesses.{Kind, direct, Access, lookup, next, rounds, met, best, made, tally}
use Rattle.model.specs.Searches.{ahead, ranked}
use Rattle.laws.specs.Accepted.{Valid, Placed}
use Rattle.laws.specs.Meetings.{Whole}
use Rattle.poses.specs.Sets.{set_of}
use Rattle.meeting.specs.Clauses.{query_of, Located, Small}
use Rattle.meeting.specs.Shortlist.{Listing}
use Rattle.meeting.specs.declared.Reading.{Reading}
use Rattle.noting.specs.Clauses.{Visitable}
use Rattle.noting.specs.declared.shortlist.Shortlist.{Shortlist}

-- the items met, by score falling, then item rising
unfoldable pub ranking : Poses → Query → List Access → List ℕ
ranking s q tr = ranked (ahead (total s q) (total s q)) (met s tr) s.n

-- After the accesses tr, over what was lent: the shortlist holds the first of the items met with their scores, the tally slice the tally
pub record State (s : Poses) (q : Query) (tr : List Access) (picks₀ lows₀ tally₀ : List ℕ) (l : Shortlist) (marks : List ℕ) : Type 0 where
  pub shortlist : Listing (total s q) (total s q) (take l.count (ranking s q tr)) picks₀ lows₀ lows₀ l.filled l.picks.now l.lows.now l.lows.now
  pub tally_is : marks ≡ over (tally s tr) tally₀
  pub tally_as_long : length marks ≡ length tally₀

-- A step, whatever was lent: from the state after tr to the state after tr'
pub record Goes (s : Poses) (q : Query) (tr tr' : List Access) (l : Shortlist) (marks : List ℕ) (l' : Shortlist) (marks' : List ℕ) : Type 0 where
  pub step : (picks₀ lows₀ tally₀ : List ℕ) → State s q tr picks₀ lows₀ tally₀ l marks → State s q tr' picks₀ lows₀ tally₀ l' marks'

-- Item d has a position in each list, and there is room for a visit
pub record Meeting (d : ℕ) (r : Reading) (marks : List ℕ) : Type 0 where
  pub m_least : 1 ≤ r.set.lists
  pub located : Located r.set.lists r.set.poses d r.set.poses r.set.scores.now r.places.now
  pub small : Small r.weights.now r.set.scores.now
  pub visitable : Visitable d r.set.lists r.set.poses marks r.places.now

-- what a search reads, with these items in its lists
abbrev pub set_with : Reading → List ℕ → Poses
set_with r items = record { m = r.set.lists; n = r.set.poses; items = items; scores = r.set.scores.now }

-- Item d, wherever it was found: one lookup more
pub record Met (d : ℕ) (r : Reading) (l : Shortlist) (marks : List ℕ) (l' : Shortlist) (marks' : List ℕ) : Type 0 where
  pub looks_up : (items : List ℕ) (tr : List Access) (a : Kind) (i p : ℕ) → Valid (set_with r items)
      → Placed (set_with r items) r.places.now → Whole (set_with r items) tr → i < r.set.lists → p < r.set.poses
      → item (set_with r items) i p ≡ d
      → Goes (set_with r items) (query_of r) tr (tr ++ lookup (set_with r items) a i p) l marks l' marks'

-- Between two steps: the state after tr over the slices themselves, and room for more
pub record Standing (r : Reading) (tr : List Access) (l : Shortlist) (marks : List ℕ) : Type 0 where
  pub tally_long : r.set.lists * r.set.poses ≤ length marks
  pub state : State (set_of r.set) (query_of r) tr l.picks.now l.lows.now marks l marks

-- List i lies within the slices; where b is a position, the item that stands there can be met
pub record Looking (i b : ℕ) (r : Reading) (marks : List ℕ) : Type 0 where
  pub list_within : i < r.set.lists
  pub at_most : b ≤ r.set.poses
  pub items_long : r.set.lists * r.set.poses ≤ length r.set.items.now
  pub meeting : b < r.set.poses → Meeting (item (set_of r.set) i b) r marks

-- Whatever was visited so far, where b is list i's best position: BPA2's turn at list i
pub record Turned (i b : ℕ) (r : Reading) (l : Shortlist) (marks : List ℕ) (l' : Shortlist) (marks' : List ℕ) : Type 0 where
  pub turns : (tr : List Access) → Valid (set_of r.set) → Placed (set_of r.set) r.places.now → Whole (set_of r.set) tr
      → b ≡ best (set_of r.set) tr i → Goes (set_of r.set) (query_of r) tr (next (set_of r.set) tr i) l marks l' marks'

-- Each list was visited up to the position that stands for it
abbrev pub VisitedUpTo : Poses → List Access → List ℕ → Type 0
VisitedUpTo s tr reach = (i : ℕ) → i < s.m → get_or reach i 0 ≤ best s tr i

-- After some number of rounds
pub record Rounding (r : Reading) (reach : List ℕ) (l : Shortlist) (marks : List ℕ) : Type 0 where
  pub done : ℕ
  pub standing : Standing r (rounds (set_of r.set) done) l marks
  pub reached : VisitedUpTo (set_of r.set) (rounds (set_of r.set) done) reach

-- After however many rounds the slices stand: one round more, of `found` direct accesses
pub record Rounded (r : Reading) (reach : List ℕ) (l : Shortlist) (marks : List ℕ) (found : ℕ) (reach' : List ℕ) (l' : Shortlist)
    (marks' : List ℕ) : Type 0 where
  pub goes : (x : ℕ) → Standing r (rounds (set_of r.set) x) l marks → VisitedUpTo (set_of r.set) (rounds (set_of r.set) x) reach
      → Goes (set_of r.set) (query_of r) (rounds (set_of r.set) x) (rounds (set_of r.set) (x + 1)) l marks l' marks'
  pub reached : (x : ℕ) → Standing r (rounds (set_of r.set) x) l marks → VisitedUpTo (set_of r.set) (rounds (set_of r.set) x) reach
      → VisitedUpTo (set_of r.set) (rounds (set_of r.set) (x + 1)) reach'
  pub counted : (x : ℕ) → Standing r (rounds (set_of r.set) x) l marks → VisitedUpTo (set_of r.set) (rounds (set_of r.set) x) reach
      → made direct (rounds (set_of r.set) (x + 1)) ≡ made direct (rounds (set_of r.set) x) + found
  pub few : found ≤ r.set.lists
