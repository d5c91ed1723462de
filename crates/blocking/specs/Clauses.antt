-- The records that the contracts of `blocking` cite.
--     Kth, kth_of    the k-th greatest mark, as a bar; it is the last of the k greatest
--     InTheWay       one of the items met that stands in the way, or none
--     Stuck, Obstructed      NRA goes on; what keeps it from stopping, where something does
-- Assumes nothing.
use Rattle.std.specs.Prelude.{◌≡◌, true, false, List, ℕ, ◌-◌, ◌≤◌, ◌<◌, length, get_or, Option, Some, None}
use Rattle.meeting.specs.Clauses.{View}
use Rattle.halting.specs.Clauses.{halts_of, reach_of, Barred, passes_of}
use Rattle.raising.specs.Clauses.{Led}
use Rattle.raising.specs.Floor.{led_bar, led_few}

-- `top` is the k-th greatest mark: where it is 0, fewer than k items are met, and else it is the k-th low and one more
pub record Kth (n k : ℕ) (marks : List ℕ) (top : ℕ) : Type 0 where
  pub few : top ≡ 0 → reach_of n marks 0 < k
  pub barred : 1 ≤ top → Barred n k marks (top - 1)

pub kth_of : {n k : ℕ} {marks tops : List ℕ} → Led n k marks tops → 1 ≤ k → Kth n k marks (get_or tops (k - 1) 0)
kth_of led some = record { few = led_few led some; barred = led_bar led some }

-- An entry whose item stands in the way, or none does
abbrev pub InTheWay : View → ℕ → ℕ → List ℕ → Option ℕ → Type 0
InTheWay v p bar met None = (j : ℕ) → j < length met → passes_of v p bar (get_or met j 0) ≡ true
InTheWay v p bar met (Some r) = (r < length met) × (passes_of v p bar (get_or met r 0) ≡ false)

-- NRA does not stop after p rows, and r is within the `count` items met
pub record Stuck (v : View) (k p count r : ℕ) : Type 0 where
  pub small : r < v.n
  pub within : r ≤ count
  pub goes_on : halts_of v k p ≡ false

-- NRA stops after p rows exactly where nothing is in the way
abbrev pub Obstructed : View → ℕ → ℕ → ℕ → Option ℕ → Type 0
Obstructed v k p count None = halts_of v k p ≡ true
Obstructed v k p count (Some r) = Stuck v k p count r
