-- The records that the contracts of `ranking` cite.
--     held_of                 the first k met items, in the order
--     reaches_of, front_of     an item is met and its low reaches a bar; the first k of these among the first c entries of `met`
--     HeldIn                 the first k met items after p rows, in the three slices
--     FrontIn, Considered    the same of the entries' items that reach a bar; one entry more
-- Assumes nothing.
use Rattle.std.specs.Prelude.{◌≡◌, Bool, true, false, ◌&&◌, List, ℕ, ◌+◌, leb, get_or}
use Rattle.meeting.specs.Shortlist.{Listing}
use Rattle.halting.specs.Bar.{held}
use Rattle.meeting.specs.Clauses.{View, bound_of}
use Rattle.halting.specs.Clauses.{met_of, in_first}

-- the first k of the met items
unfoldable pub held_of : View → ℕ → ℕ → List ℕ
held_of v k p = held v.n k (bound_of v false p) (bound_of v true p) (met_of v p)

-- item d is met and its low reaches the bar
unfoldable pub reaches_of : View → ℕ → ℕ → ℕ → Bool
reaches_of v p bar d = met_of v p d && leb bar (bound_of v false p d)

-- the first k of the items that reach the bar, among the first c entries of `met`
unfoldable pub front_of : View → ℕ → ℕ → ℕ → List ℕ → ℕ → List ℕ
front_of v k p bar met c = held v.n k (bound_of v false p) (bound_of v true p) (λ d. in_first met c d && reaches_of v p bar d)

-- ---- the items one after the other
-- The first k of the met items
pub record HeldIn (v : View) (k p : ℕ) (picks₀ lows₀ highs₀ : List ℕ) (filled : ℕ) (picks lows highs : List ℕ) : Type 0 where
  pub listing : Listing (bound_of v false p) (bound_of v true p) (held_of v k p) picks₀ lows₀ highs₀ filled picks lows highs

-- The first k of the items that reach the bar, among the first c entries of `met`
pub record FrontIn (v : View) (k p bar : ℕ) (met : List ℕ) (c : ℕ) (picks₀ lows₀ highs₀ : List ℕ) (filled : ℕ) (picks lows highs : List ℕ) : Type 0
  where
    pub listing : Listing (bound_of v false p) (bound_of v true p) (front_of v k p bar met c) picks₀ lows₀ highs₀ filled picks lows highs

-- Of the first k among any c entries, where item d is none of them, the first k once it is the next entry
pub record Considered (v : View) (k p bar d filled : ℕ) (picks lows highs : List ℕ) (r : ℕ) (picks' lows' highs' : List ℕ) : Type 0 where
  pub considers : (met : List ℕ) (c : ℕ) (picks₀ lows₀ highs₀ : List ℕ) → get_or met c 0 ≡ d → in_first met c d ≡ false
      → FrontIn v k p bar met c picks₀ lows₀ highs₀ filled picks lows highs
      → FrontIn v k p bar met (c + 1) picks₀ lows₀ highs₀ r picks' lows' highs'
