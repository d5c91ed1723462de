-- What NRA's test after a row is read from, asks and promises.
--     met_of                  an item is met after p rows
--     halts_of                NRA's test after p rows
--     Sound, Legible, legible     what reading asks, after any rows and after p; the one gives the other
--     at_row                  the same after another row
--     bound_asks, limit_asks     what a bound asks of an item, and what a row's threshold asks, from that
--     mark_of, Marked         an item's low as a number above 0 where it is met; each item's
--     reach_of, Barred        how many marks are above a bar; the highest bar that k of them are above
--     passes_of, above_of      an item does not stand in the way of stopping; how many highs are above a bar
--     parts_of                NRA's test by that bar
--     unmet_of                the high of an item that is not met
--     Named                  the entries of a slice are items
--     in_first, Listed, Gathered      an item is one of the first entries; these are the items met, each once; with room for more
--     listed_reach            how many of the first entries have a mark above a bar
--     Blocks, Blocking       the first of some entries whose item stands in the way
-- Assumes nothing.
use Rattle.std.specs.Prelude.{◌≡◌, Bool, true, false, cond, ◌&&◌, ◌||◌, List, ℕ, suc, ◌+◌, ◌*◌, ◌≤◌, ◌<◌, eqb, leb, ltb, length, get_or, replicate, Option, Some, None}
use Rattle.std.proofs.Common.{arith}
use Rattle.std.proofs.lemmas.List.{get_or-replicate}
use Rattle.model.specs.Words.{some_below}
use Rattle.laws.specs.Passing.{passing}
use Rattle.meeting.specs.Clauses.{View, bound_of, Located, Small, Limited, limit_at}
use Rattle.halting.specs.Bar.{halts, parts}

-- item d is met after p rows: one of its positions is at most p
unfoldable pub met_of : View → ℕ → ℕ → Bool
met_of v p d = some_below (λ i. leb (get_or v.work (i * v.n + d) 0) p) v.m

-- NRA's test after p rows
unfoldable pub halts_of : View → ℕ → ℕ → Bool
halts_of v k p = halts v.n k (bound_of v false p) (bound_of v true p) (met_of v p)

-- The lists lie within the slices, each item has a position in each list, nothing is too large
pub record Sound (v : View) : Type 0 where
  pub m_most : v.m ≤ 8
  pub n_most : v.n ≤ 1024
  pub scores_long : v.m * v.n ≤ length v.scores
  pub work_long : v.m * v.n ≤ length v.work
  pub place_least : (i d : ℕ) → i < v.m → d < v.n → 1 ≤ get_or v.work (i * v.n + d) 0
  pub place_most : (i d : ℕ) → i < v.m → d < v.n → get_or v.work (i * v.n + d) 0 ≤ v.n
  pub weights_small : (i : ℕ) → get_or v.weights i 0 ≤ 1000
  pub scores_small : (j : ℕ) → get_or v.scores j 0 ≤ 65535

-- After p rows: the lists lie within the slices, each item has a position in each list, nothing is too large
pub record Legible (v : View) (p : ℕ) : Type 0 where
  pub m_most : v.m ≤ 8
  pub n_most : v.n ≤ 1024
  pub row_least : 1 ≤ p
  pub row_most : p ≤ v.n
  pub scores_long : v.m * v.n ≤ length v.scores
  pub work_long : v.m * v.n ≤ length v.work
  pub place_least : (i d : ℕ) → i < v.m → d < v.n → 1 ≤ get_or v.work (i * v.n + d) 0
  pub place_most : (i d : ℕ) → i < v.m → d < v.n → get_or v.work (i * v.n + d) 0 ≤ v.n
  pub weights_small : (i : ℕ) → get_or v.weights i 0 ≤ 1000
  pub scores_small : (j : ℕ) → get_or v.scores j 0 ≤ 65535

pub legible : {v : View} {p : ℕ} → Sound v → 1 ≤ p → p ≤ v.n → Legible v p
legible s least most =
    record {
      m_most = s.m_most;
      n_most = s.n_most;
      row_least = least;
      row_most = most;
      scores_long = s.scores_long;
      work_long = s.work_long;
      place_least = s.place_least;
      place_most = s.place_most;
      weights_small = s.weights_small;
      scores_small = s.scores_small;
    }

-- the same after another row
pub at_row : {v : View} {r : ℕ} → Legible v r → (p : ℕ) → 1 ≤ p → p ≤ v.n → Legible v p
at_row w p least most =
    record {
      m_most = w.m_most;
      n_most = w.n_most;
      row_least = least;
      row_most = most;
      scores_long = w.scores_long;
      work_long = w.work_long;
      place_least = w.place_least;
      place_most = w.place_most;
      weights_small = w.weights_small;
      scores_small = w.scores_small;
    }

pub bound_asks : {v : View} {p : ℕ} (d : ℕ) → Legible v p → d < v.n
    → Located v.m v.n d p v.scores v.work × Small v.weights v.scores
bound_asks d w h = (
  record {
    m_most = w.m_most;
    n_most = w.n_most;
    item_small = h;
    depth_least = w.row_least;
    depth_most = w.row_most;
    scores_long = w.scores_long;
    work_long = w.work_long;
    place_least = λ i hi. w.place_least i d hi h;
    place_most = λ i hi. w.place_most i d hi h;
  },
  record { weights_small = w.weights_small; scores_small = w.scores_small },
)

-- what the threshold of row p asks, from that
pub limit_asks : {v : View} {p : ℕ} → Legible v p → Limited v.m v.n (replicate 8 p) v.weights v.scores
limit_asks {v} {p} w =
    record {
      m_most = w.m_most;
      scores_long = w.scores_long;
      at_least = λ i hi. rw (get_or-replicate {A = ℕ} 8 i p 0 (omega (arith, w.m_most))) w.row_least;
      at_most = λ i hi. rw (get_or-replicate {A = ℕ} 8 i p 0 (omega (arith, w.m_most))) w.row_most;
      small = record { weights_small = w.weights_small; scores_small = w.scores_small };
    }

-- ---- the test
-- item d's low after p rows and one more; 0 where it is not met
unfoldable pub mark_of : View → ℕ → ℕ → ℕ
mark_of v p d = cond (met_of v p d) (bound_of v false p d + 1) 0

-- Each item's mark after p rows
pub record Marked (v : View) (p : ℕ) (marks : List ℕ) : Type 0 where
  pub marks_long : v.n ≤ length marks
  pub marks_are : (d : ℕ) → d < v.n → get_or marks d 0 ≡ mark_of v p d

-- how many of n marks are above a bar
unfoldable pub reach_of : ℕ → List ℕ → ℕ → ℕ
reach_of n marks bar = passing (λ d. ltb bar (get_or marks d 0)) n

-- The highest bar that k marks are above
pub record Barred (n k : ℕ) (marks : List ℕ) (bar : ℕ) : Type 0 where
  pub reached : k ≤ reach_of n marks bar
  pub not_next : reach_of n marks (suc bar) < k

-- item d does not stand in the way of stopping: its high is not above the bar, or it is met and its low reaches the bar
unfoldable pub passes_of : View → ℕ → ℕ → ℕ → Bool
passes_of v p bar d = leb (bound_of v true p d) bar || (met_of v p d && leb bar (bound_of v false p d))

-- how many items' highs are above the bar
unfoldable pub above_of : View → ℕ → ℕ → ℕ
above_of v p bar = passing (λ d. ltb bar (bound_of v true p d)) v.n

-- the high of an item that is not met after p rows: the threshold of row p
unfoldable pub unmet_of : View → ℕ → ℕ
unmet_of v p = limit_at v.rule v.weights v.m v.n (replicate 8 p) v.scores

-- NRA's test after p rows by the k-th low
unfoldable pub parts_of : View → ℕ → ℕ → ℕ → Bool
parts_of v k p bar = parts v.n k (bound_of v false p) (bound_of v true p) (met_of v p) bar

-- ---- the items met, one after the other
-- Each entry of `met` is an item
pub record Named (n : ℕ) (met : List ℕ) : Type 0 where
  pub items_small : (j : ℕ) → j < length met → get_or met j 0 < n

-- item d is one of the first c entries
unfoldable pub in_first : List ℕ → ℕ → ℕ → Bool
in_first met c d = some_below (λ j. eqb d (get_or met j 0)) c

-- The first `count` entries of `met` are the items met, which have a mark, each once
pub record Listed (n : ℕ) (marks met : List ℕ) (count : ℕ) : Type 0 where
  pub items_small : (j : ℕ) → j < count → get_or met j 0 < n
  pub met_are : (d : ℕ) → d < n → in_first met count d ≡ ltb 0 (get_or marks d 0)
  pub once_each : (j : ℕ) → j < count → in_first met j (get_or met j 0) ≡ false

-- The same, in a slice with room for each item
pub record Gathered (n : ℕ) (marks met : List ℕ) (count : ℕ) : Type 0 where
  pub met_long : n ≤ length met
  pub listed : Listed n marks met count

-- how many of the first c entries have a mark above the bar
unfoldable pub listed_reach : ℕ → List ℕ → List ℕ → ℕ → ℕ
listed_reach c marks met bar = passing (λ j. ltb bar (get_or marks (get_or met j 0) 0)) c

-- The first entry whose item stands in the way: it does, and none before it
pub record Blocks (v : View) (p bar : ℕ) (met : List ℕ) (r : ℕ) : Type 0 where
  pub inside : r < length met
  pub in_the_way : passes_of v p bar (get_or met r 0) ≡ false
  pub none_before : (j : ℕ) → j < r → passes_of v p bar (get_or met j 0) ≡ true

-- The first entry whose item stands in the way, where one does
abbrev pub Blocking : View → ℕ → ℕ → List ℕ → Option ℕ → Type 0
Blocking v p bar met None = (j : ℕ) → j < length met → passes_of v p bar (get_or met j 0) ≡ true
Blocking v p bar met (Some r) = Blocks v p bar met r
