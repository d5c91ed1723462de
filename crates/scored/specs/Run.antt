-- TA, BPA and BPA2 by their numbers, 0, 1 and 2, and what the run of a search asks and promises.
--     steps_by, reach_by, kind_by       the accesses of p rows or rounds; the threshold's positions; the kind of the accesses that find
--     search_by                       the search; `search_ta`, `search_bpa`, `search_bpa2` say which it is
--     Stepping, Stepped              what one row or round asks and promises
--     Running, RanBy                 what a run asks and promises
-- Assumes nothing.
use Rattle.std.specs.Prelude.{◌≡◌, refl, cond, List, map, ℕ, ◌+◌, ◌*◌, ◌≤◌, ◌<◌, eqb, length}
use Rattle.model.specs.Words.{over}
use Rattle.model.specs.Given.{Poses, Query, total}
use Rattle.model.specs.Accesses.{Kind, sorted, direct, random, Access, rows_ta, rounds, best, made, tally}
use Rattle.model.specs.Searches.{Search, kept, rows, threshold, by_score, TA, BPA, BPA2}
use Rattle.poses.specs.Sets.{set_of}
use Rattle.meeting.specs.Clauses.{query_of}
use Rattle.meeting.specs.Shortlist.{Keeps}
use Rattle.meeting.specs.declared.Found.{Found}
use Rattle.meeting.specs.declared.Reading.{Reading}
use Rattle.noting.specs.declared.shortlist.Shortlist.{Shortlist}
use Rattle.stepping.specs.State.{Goes, Standing, VisitedUpTo}

-- the accesses of the first p rows of TA and BPA, or rounds of BPA2
unfoldable pub steps_by : ℕ → Poses → ℕ → List Access
steps_by which s p = cond (eqb which 2) (rounds s p) (rows_ta s p)

-- the threshold's position in list i: p for TA, the list's best position for BPA and BPA2
unfoldable pub reach_by : ℕ → Poses → ℕ → ℕ → ℕ
reach_by which s p i = cond (eqb which 0) p (best s (steps_by which s p) i)

-- items are found by sorted accesses in TA and BPA, by direct ones in BPA2
unfoldable pub kind_by : ℕ → Kind
kind_by which = cond (eqb which 2) direct sorted

-- the search
unfoldable pub search_by : ℕ → Poses → Query → Search
search_by which s q = by_score s q (steps_by which s) (λ p. threshold s q (reach_by which s p))

pub search_ta : (s : Poses) (q : Query) → search_by 0 s q ≡ TA s q
unfolding search_by steps_by reach_by TA
search_ta s q = refl

pub search_bpa : (s : Poses) (q : Query) → search_by 1 s q ≡ BPA s q
unfolding search_by steps_by reach_by BPA
search_bpa s q = refl

pub search_bpa2 : (s : Poses) (q : Query) → search_by 2 s q ≡ BPA2 s q
unfolding search_by steps_by reach_by BPA2
search_bpa2 s q = refl

-- After p rows or rounds, with more to come
pub record Stepping (which p : ℕ) (r : Reading) (reach : List ℕ) (l : Shortlist) (marks : List ℕ) : Type 0 where
  pub standing : Standing r (steps_by which (set_of r.set) p) l marks
  pub reached : VisitedUpTo (set_of r.set) (steps_by which (set_of r.set) p) reach
  pub not_last : p < r.set.poses

-- One row or round more, which finds `found` items
pub record Stepped (which p : ℕ) (r : Reading) (l : Shortlist) (marks : List ℕ) (found : ℕ) (reach' : List ℕ) (l' : Shortlist) (marks' : List ℕ) :
    Type 0 where
  pub goes : Goes (set_of r.set) (query_of r) (steps_by which (set_of r.set) p) (steps_by which (set_of r.set) (p + 1)) l marks l' marks'
  pub reached : VisitedUpTo (set_of r.set) (steps_by which (set_of r.set) (p + 1)) reach'
  pub counted : made (kind_by which) (steps_by which (set_of r.set) (p + 1)) ≡ made (kind_by which) (steps_by which (set_of r.set) p) + found
  pub few : found ≤ r.set.lists

-- There is room for k places and the tally
pub record Running (s : Poses) (k : ℕ) (picks lows marks : List ℕ) : Type 0 where
  pub keeps : Keeps k 0 picks lows lows
  pub tally_long : s.m * s.n ≤ length marks

-- The row at which the search stops, its accesses by kind, and over what was lent the first k items, their scores and the tally
pub record RanBy (which : ℕ) (s : Poses) (q : Query) (k : ℕ) (picks₀ lows₀ tally₀ : List ℕ) (d : Found) (picks lows marks : List ℕ) : Type 0 where
  pub rows_are : d.rows ≡ rows s k (search_by which s q)
  pub sorted_are : d.sorted.0 ≡ made sorted (steps_by which s d.rows)
  pub direct_are : d.direct.0 ≡ made direct (steps_by which s d.rows)
  pub random_are : d.random.0 ≡ made random (steps_by which s d.rows)
  pub picks_are : picks ≡ over (kept s k (search_by which s q) d.rows) picks₀
  pub lows_are : lows ≡ over (map (total s q) (kept s k (search_by which s q) d.rows)) lows₀
  pub tally_is : marks ≡ over (tally s (steps_by which s d.rows)) tally₀
