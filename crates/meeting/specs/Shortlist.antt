-- The shortlist while items are put in: at most k of them, in three slices over what was lent. Where whole scores are known, a score is both an
-- item's low and its high, and one slice stands for both.
--     Spaced         k places are lent
--     Keeps          the first `filled` of them hold items
--     Listing        items in the order in the three slices
--     Inserted       what an insertion promises of any such items
-- Assumes nothing.
use Rattle.std.specs.Prelude.{◌≡◌, false, List, ℕ, ◌≤◌, length, take}
use Rattle.model.specs.Searches.{ahead, insert, among}
use Rattle.laws.specs.Ranking.{Sorted}
use Rattle.meeting.specs.Clauses.{Shown}

pub record Spaced (k : ℕ) (picks lows highs : List ℕ) : Type 0 where
  pub k_least : 1 ≤ k
  pub picks_long : k ≤ length picks
  pub lows_long : k ≤ length lows
  pub highs_long : k ≤ length highs

pub record Keeps (k filled : ℕ) (picks lows highs : List ℕ) : Type 0 where
  pub room : Spaced k picks lows highs
  pub filled_most : filled ≤ k

-- Items l in the order, `filled` of them, with a low and a high each, over what was lent
pub record Listing (low high : ℕ → ℕ) (l picks₀ lows₀ highs₀ : List ℕ) (filled : ℕ) (picks lows highs : List ℕ) : Type 0 where
  pub in_order : Sorted (ahead low high) l
  pub filled_is : filled ≡ length l
  pub shown : Shown l low high picks₀ lows₀ highs₀ picks lows highs
  pub picks_as_long : length picks ≡ length picks₀
  pub lows_as_long : length lows ≡ length lows₀
  pub highs_as_long : length highs ≡ length highs₀

-- Of any such items, the first k once d is among them
pub record Inserted (d low high k filled : ℕ) (picks lows highs : List ℕ) (r : ℕ) (picks' lows' highs' : List ℕ) : Type 0 where
  pub inserts : (f g : ℕ → ℕ) (l picks₀ lows₀ highs₀ : List ℕ) → low ≡ f d → high ≡ g d
      → among d l ≡ false → Listing f g l picks₀ lows₀ highs₀ filled picks lows highs
      → Listing f g (take k (insert (ahead f g) d l)) picks₀ lows₀ highs₀ r picks' lows' highs'
