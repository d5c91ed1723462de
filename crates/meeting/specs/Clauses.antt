-- The records that the contracts of the searches cite.
--     query_with            a query of a rule and decoded weights
--     View, view, view_of     what scores and bounds are read from; of what a search reads
--     query_of              the query of what a search reads
--     bound_of               an item's low or high, as far as the first positions of each list tell it
--     Readable             all that a search may read once its tests are passed
--     Room                 k is one of 1 to n, and the lent slices are long enough
--     Shown, Ran           the shortlist's slices; what the run of any search promises of the four slices that it writes
--     read_at, unread       an item's local score as the slices have it, and what stands for one that is not read
--     Located, Small       what the score of an item asks
--     Limited, limit_at     what a threshold asks; the joined scores at a position of each list
--     ahead_of, Seated      the order on items with their lows and highs; where an item belongs among the first `filled`
--     slid                 a value put in at a seat, what stood from there on moved one place on
-- Assumes nothing.
use Rattle.std.specs.Prelude.{◌≡◌, Bool, true, false, cond, ◌&&◌, ◌||◌, List, ◌∷◌, ◌++◌, map, ℕ, suc, ◌+◌, ◌-◌, ◌*◌, ◌≤◌, ◌<◌, eqb, leb, ltb, length, get_or, take, drop}
use Rattle.model.specs.Words.{over}
use Rattle.model.specs.Given.{Poses, Query, joined}
use Rattle.model.specs.Accesses.{tally}
use Rattle.model.specs.Searches.{Search, kept}
use Rattle.laws.specs.Accepted.{Valid, Placed}
use Rattle.poses.specs.Rules.{rule_number}
use Rattle.meeting.specs.declared.Reading.{Reading}

-- a query of a rule and of weights that stand list by list
abbrev pub query_with : ℕ → List ℕ → Query
query_with rule weights = record { rule = rule; weight = λ i. get_or weights i 0 }

-- the query of what a search reads
abbrev pub query_of : Reading → Query
query_of r = query_with (rule_number r.rule) r.weights.now

-- Once the tests are passed: the lists are valid, the work slice holds the positions, weights and scores are small
pub record Readable (s : Poses) (q : Query) (work : List ℕ) : Type 0 where
  pub lists_valid : Valid s
  pub work_placed : Placed s work
  pub weights_small : (i : ℕ) → q.weight i ≤ 1000
  pub scores_small : (j : ℕ) → get_or s.scores j 0 ≤ 65535

-- k is one of 1 to n, and the slices are long enough: "under k places for the shortlist, under m x n for the tally"
pub record Room (s : Poses) (k : ℕ) (picks lows highs tally : List ℕ) : Type 0 where
  pub k_least : 1 ≤ k
  pub k_most : k ≤ s.n
  pub picks_long : k ≤ length picks
  pub lows_long : k ≤ length lows
  pub highs_long : k ≤ length highs
  pub tally_long : s.m * s.n ≤ length tally

-- The shortlist's three slices, over what was lent: the items l with a low and a high each
pub record Shown (l : List ℕ) (low high : ℕ → ℕ) (picks₀ lows₀ highs₀ picks lows highs : List ℕ) : Type 0 where
  pub picks_are : picks ≡ over l picks₀
  pub lows_are : lows ≡ over (map low l) lows₀
  pub highs_are : highs ≡ over (map high l) highs₀

-- The run of a search that stops after p rows
pub record Ran (s : Poses) (k : ℕ) (r : Search) (p : ℕ) (picks₀ lows₀ highs₀ tally₀ picks lows highs tally' : List ℕ) : Type 0 where
  pub shortlist : Shown (kept s k r p) (r.low p) (r.high p) picks₀ lows₀ highs₀ picks lows highs
  pub tally_is : tally' ≡ over (tally s (r.accesses p)) tally₀

-- item d's local score in list i, as the slices have it: where its position is one of the first `depth`, the score there, and
-- else x. The work slice's positions count from one
unfoldable pub read_at : ℕ → List ℕ → List ℕ → ℕ → ℕ → (ℕ → ℕ) → ℕ → ℕ
read_at n scores work d depth x i =
    cond (leb (get_or work (i * n + d) 0) depth) (get_or scores (i * n + get_or work (i * n + d) 0 - 1) 0) (x i)

-- for a local score that is not read: 0, or the list's score at the last position read
unfoldable pub unread : Bool → ℕ → List ℕ → ℕ → ℕ → ℕ
unread high n scores depth i = cond high (get_or scores (i * n + depth - 1) 0) 0

-- Item d has a position in each of m lists of n entries that lie within both slices
pub record Located (m n d depth : ℕ) (scores work : List ℕ) : Type 0 where
  pub m_most : m ≤ 8
  pub n_most : n ≤ 1024
  pub item_small : d < n
  pub depth_least : 1 ≤ depth
  pub depth_most : depth ≤ n
  pub scores_long : m * n ≤ length scores
  pub work_long : m * n ≤ length work
  pub place_least : (i : ℕ) → i < m → 1 ≤ get_or work (i * n + d) 0
  pub place_most : (i : ℕ) → i < m → get_or work (i * n + d) 0 ≤ n

-- What the bounds are read from: m lists of n entries, the rule and the weights, the scores and the work slice's positions
pub record View : Type 0 where
  pub m : ℕ
  pub n : ℕ
  pub rule : ℕ
  pub weights : List ℕ
  pub scores : List ℕ
  pub work : List ℕ

abbrev pub view : ℕ → ℕ → ℕ → List ℕ → List ℕ → List ℕ → View
view m n rule weights scores work = record { m = m; n = n; rule = rule; weights = weights; scores = scores; work = work }

-- item d's low after p rows, or its high
unfoldable pub bound_of : View → Bool → ℕ → ℕ → ℕ
bound_of v high p d =
    joined v.rule (λ i. read_at v.n v.scores v.work d p (unread high v.n v.scores p) i * get_or v.weights i 0) v.m

-- what a search reads, as scores and bounds are read from it
abbrev pub view_of : Reading → View
view_of r = view r.set.lists r.set.poses (rule_number r.rule) r.weights.now r.set.scores.now r.places.now

-- No weight and no score is too large
pub record Small (weights scores : List ℕ) : Type 0 where
  pub weights_small : (i : ℕ) → get_or weights i 0 ≤ 1000
  pub scores_small : (j : ℕ) → get_or scores j 0 ≤ 65535

-- A position, from one, stands for each of m lists that lie within the scores
pub record Limited (m n : ℕ) (at weights scores : List ℕ) : Type 0 where
  pub m_most : m ≤ 8
  pub scores_long : m * n ≤ length scores
  pub at_least : (i : ℕ) → i < m → 1 ≤ get_or at i 0
  pub at_most : (i : ℕ) → i < m → get_or at i 0 ≤ n
  pub small : Small weights scores

-- the scores at a position of each list, counted from one, joined by the rule
unfoldable pub limit_at : ℕ → List ℕ → ℕ → ℕ → List ℕ → List ℕ → ℕ
limit_at rule weights m n at scores = joined rule (λ i. get_or scores (i * n + (get_or at i 0 - 1)) 0 * get_or weights i 0) m

-- ---- the shortlist
-- item d with its low and high stands before item e with its own: by low falling, then high falling, then item rising
unfoldable pub ahead_of : ℕ → ℕ → ℕ → ℕ → ℕ → ℕ → Bool
ahead_of d low high e low' high' = ltb low' low || (eqb low low' && (ltb high' high || (eqb high high' && ltb d e)))

-- Item d belongs at r: before each that follows, and not before the one in front
pub record Seated (d low high filled : ℕ) (picks lows highs : List ℕ) (r : ℕ) : Type 0 where
  pub seat_most : r ≤ filled
  pub before_rest : (j : ℕ) → r ≤ j → j < filled
      → ahead_of d low high (get_or picks j 0) (get_or lows j 0) (get_or highs j 0) ≡ true
  pub behind_front : (j : ℕ) → suc j ≡ r → ahead_of d low high (get_or picks j 0) (get_or lows j 0) (get_or highs j 0) ≡ false

-- x at `seat`, what stood from there up to `last` one place on, and the rest as it was
unfoldable pub slid : ℕ → ℕ → ℕ → List ℕ → List ℕ
slid seat last x l = take seat l ++ x ∷ (take (last - seat) (drop seat l) ++ drop (suc last) l)
