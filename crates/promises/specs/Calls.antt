-- Accepted calls of the four functions, and all that is claimed of what they return and leave in their slices.
--     Call           a call of a search over a pose set, a query and k that was accepted, with whatever slices
--     Returns        what is claimed of each of the four
--     Delivered      what is claimed of the four together; `delivered` of Kept.antt proves it
-- Assumes nothing.
use Rattle.std.specs.Prelude.{◌≡◌, true, false, List, ℕ, ◌-◌, ◌*◌, ◌≤◌, ◌<◌, get_or, take}
use Rattle.model.specs.Given.{Poses, Query, total}
use Rattle.model.specs.Accesses.{met, rounds}
use Rattle.model.specs.Searches.{Search, stops}
use Rattle.model.specs.Refusals.{Lent, poses_of, query_of}
use Rattle.laws.specs.Passing.{passing}
use Rattle.laws.specs.Sums.{sum}
use Rattle.answers.specs.declared.Answer.{Answer}
use Rattle.answers.specs.Clauses.{all_told}
use Rattle.answering.specs.Answered.{Searched}

-- A call of the search r over the pose set s, the query q and k, that was accepted: its answer, and the slices of shortlist and
-- tally as it leaves them. What slices were lent, and what was in them, does not matter
pub record Call (r : Poses → Query → Search) (s : Poses) (q : Query) (k : ℕ) (a : Answer) (picks lows highs marks : List ℕ) : Type 0 where
  pub lent : Lent
  pub work : List ℕ
  pub same_poses : poses_of lent ≡ s
  pub same_query : query_of lent ≡ q
  pub same_k : lent.k ≡ k
  pub searched : Searched r lent a picks lows highs marks work
  pub accepted : a.number ≡ 0

-- What is claimed of each of the four
pub record Returns (s : Poses) (q : Query) (k : ℕ) (r : Search) (a : Answer) (picks lows highs marks : List ℕ) : Type 0 where
  -- it returns k different items
  pub items : (j : ℕ) → j < k → get_or picks j 0 < s.n
  pub different : (i j : ℕ) → i < k → j < k → get_or picks i 0 ≡ get_or picks j 0 → i ≡ j
  -- no item left out has a higher overall score than one returned
  pub highest : (d j : ℕ) → d < s.n → ((i : ℕ) → i < k → get_or picks i 0 ≡ d → ⊥) → j < k
      → total s q d ≤ total s q (get_or picks j 0)
  -- each true score lies between the low and the high returned
  pub low_below : (j : ℕ) → j < k → get_or lows j 0 ≤ total s q (get_or picks j 0)
  pub high_above : (j : ℕ) → j < k → total s q (get_or picks j 0) ≤ get_or highs j 0
  -- it stops at row or round n at the latest, because its own test then holds, and at none before
  pub rows_least : 1 ≤ a.rows
  pub rows_most : a.rows ≤ s.n
  pub own_test : stops s k r a.rows ≡ true
  pub not_sooner : (p : ℕ) → 1 ≤ p → p < a.rows → stops s k r p ≡ false
  -- the three counts add up to the tally's sum, and no tally is above m
  pub adds_up : all_told a ≡ sum (take (s.m * s.n) marks)
  pub tally_most : (x : ℕ) → x < s.m * s.n → get_or marks x 0 ≤ s.m

-- What is claimed of the four together
pub record Delivered (s : Poses) (q : Query) (k : ℕ) (ta bpa bpa2 nra : Answer) (marks₂ : List ℕ) : Type 0 where
  -- BPA reads no more rows than TA
  pub bpa_rows : bpa.rows ≤ ta.rows
  -- BPA2 runs no more rounds than BPA reads rows
  pub bpa2_rows : bpa2.rows ≤ bpa.rows
  -- BPA2 visits no position of any list twice
  pub bpa2_once : (x : ℕ) → x < s.m * s.n → get_or marks₂ x 0 ≤ 1
  -- and makes in all exactly m accesses for each item it has met: one direct, m - 1 random for each direct one, none sorted
  pub bpa2_met : bpa2.direct.0 ≡ passing (met s (rounds s bpa2.rows)) s.n
  pub bpa2_all : all_told bpa2 ≡ s.m * passing (met s (rounds s bpa2.rows)) s.n
  pub bpa2_random : bpa2.random.0 ≡ (s.m - 1) * bpa2.direct.0
  pub bpa2_sorted : bpa2.sorted.0 ≡ 0
  -- TA and BPA make m sorted and m x (m - 1) random accesses a row
  pub ta_sorted : ta.sorted.0 ≡ ta.rows * s.m
  pub ta_random : ta.random.0 ≡ ta.rows * (s.m * (s.m - 1))
  pub ta_direct : ta.direct.0 ≡ 0
  pub bpa_sorted : bpa.sorted.0 ≡ bpa.rows * s.m
  pub bpa_random : bpa.random.0 ≡ bpa.rows * (s.m * (s.m - 1))
  pub bpa_direct : bpa.direct.0 ≡ 0
  -- NRA makes m sorted accesses a row and no other
  pub nra_sorted : nra.sorted.0 ≡ nra.rows * s.m
  pub nra_direct : nra.direct.0 ≡ 0
  pub nra_random : nra.random.0 ≡ 0
  -- BPA2's total is at most BPA's, and BPA's at most TA's
  pub bpa2_total : all_told bpa2 ≤ all_told bpa
  pub bpa_total : all_told bpa ≤ all_told ta
