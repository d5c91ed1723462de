-- The records that the contracts of `raising` cite.
--     Led            the k greatest of n marks, falling: above any bar stand as many of them as marks do, or all k
--     SeatBehind     where a value stands among falling ones
--     Raised         of any marks, the k greatest once one of them is raised
--     NewlyGathered  of any marks, the items met once one of them has a mark
-- Assumes nothing.
use Rattle.std.specs.Prelude.{◌≡◌, List, ℕ, suc, ◌≤◌, ◌<◌, min, length, get_or, set}
use Rattle.halting.specs.Clauses.{reach_of, Gathered}

-- The first k of `tops` are the k greatest of n marks, falling
pub record Led (n k : ℕ) (marks tops : List ℕ) : Type 0 where
  pub tops_long : k ≤ length tops
  pub falling : (j : ℕ) → suc j < k → get_or tops (suc j) 0 ≤ get_or tops j 0
  pub counts : (bar : ℕ) → reach_of k tops bar ≡ min k (reach_of n marks bar)

-- x stands at r: behind one that is not less, and all from r up to `end` are less
pub record SeatBehind (x end : ℕ) (tops : List ℕ) (r : ℕ) : Type 0 where
  pub seat_most : r ≤ end
  pub front_not_less : (j : ℕ) → suc j ≡ r → x ≤ get_or tops j 0
  pub rest_less : (j : ℕ) → r ≤ j → j < end → get_or tops j 0 < x

-- Of any n marks of which item d's is `old`, the k greatest once it is `new`
pub record Raised (k old new : ℕ) (tops tops' : List ℕ) : Type 0 where
  pub raises : (n d : ℕ) (marks : List ℕ) → n ≤ length marks → d < n → get_or marks d 0 ≡ old → old ≤ new
      → Led n k marks tops → Led n k (set marks d new) tops'

-- Of any n marks of which item d's is `old`, the items met once it is `new`
pub record NewlyGathered (d old count : ℕ) (met : List ℕ) (r : ℕ) (met' : List ℕ) : Type 0 where
  pub gathers : (n new : ℕ) (marks : List ℕ) → n ≤ length marks → d < n → get_or marks d 0 ≡ old → 1 ≤ new
      → Gathered n marks met count → Gathered n (set marks d new) met' r
  pub grows : count ≤ r
