-- The records that the contracts of `judging` cite. A search is told by its number: 0 TA, 1 BPA, 2 BPA2.
--     Positioned             what the threshold's positions are
--     Counting, Counted      what the counts ask, and what they are
-- Assumes nothing.
use Rattle.std.specs.Prelude.{◌≡◌, cond, List, ℕ, ◌-◌, ◌*◌, ◌≤◌, ◌<◌, eqb, get_or}
use Rattle.meeting.specs.declared.Found.{Found}
use Rattle.noting.specs.Clauses.{walked_to}

-- What the threshold's positions are
pub record Positioned (which p m n : ℕ) (marks reach : List ℕ) : Type 0 where
  pub place : (i : ℕ) → i < m → get_or reach i 0 ≡ cond (eqb which 0) p (walked_to i n marks)

-- Rows, lists and lookups are few
pub record Counting (p m found : ℕ) : Type 0 where
  pub p_most : p ≤ 1024
  pub m_least : 1 ≤ m
  pub m_most : m ≤ 8
  pub found_most : found ≤ 8192

-- Each lookup is one access of the search's own kind and a random one in each other list
pub record Counted (which p m found : ℕ) (d : Found) : Type 0 where
  pub rows_are : d.rows ≡ p
  pub sorted_are : d.sorted.0 ≡ cond (eqb which 2) 0 found
  pub direct_are : d.direct.0 ≡ cond (eqb which 2) found 0
  pub random_are : d.random.0 ≡ found * (m - 1)
