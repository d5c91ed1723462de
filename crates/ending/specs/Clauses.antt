-- The records that the contracts of `ending` cite.
--     Sought         what the search for the row asks
--     Halted         the row after which NRA stops
--     Stopped        the same, with what is kept after it
-- Assumes nothing.
use Rattle.std.specs.Prelude.{◌≡◌, true, false, List, ℕ, ◌≤◌, ◌<◌}
use Rattle.meeting.specs.Clauses.{View}
use Rattle.halting.specs.Clauses.{halts_of}
use Rattle.leading.specs.Clauses.{Leading, Rowed}

-- At each row of the lists stand items, and k is one of 1 to n
pub record Sought (v : View) (items : List ℕ) (k : ℕ) : Type 0 where
  pub rowed : (p : ℕ) → 1 ≤ p → p ≤ v.n → Rowed v items p
  pub k_least : 1 ≤ k
  pub k_most : k ≤ v.n

-- The test holds after r rows, or r is n, and it holds after no row before
pub record Halted (v : View) (k r : ℕ) : Type 0 where
  pub row_least : 1 ≤ r
  pub row_most : r ≤ v.n
  pub holds : r < v.n → halts_of v k r ≡ true
  pub not_sooner : (p : ℕ) → 1 ≤ p → p < r → halts_of v k p ≡ false

-- The row after which NRA stops, with the marks after it, the k greatest of them and the items met
pub record Stopped (v : View) (k r : ℕ) (marks tops met : List ℕ) (count : ℕ) : Type 0 where
  pub halted : Halted v k r
  pub leads : Leading v r k marks tops met count
