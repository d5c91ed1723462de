-- The records that the contracts of `listing` cite.
--     places_at       the first k places of a shortlist, as its three slices have them
--     LineRoom       k places stand in the three slices, and a slice has room for so many bytes from a place on
-- Assumes nothing.
use Rattle.std.specs.Prelude.{List, ℕ, ◌+◌, ◌≤◌, length, get_or}
use Rattle.model.specs.Words.{row}
use Rattle.model.specs.Answers.{Place}

-- "item:low:high for each place": the first k places that the shortlist's three slices hold
unfoldable pub places_at : List ℕ → List ℕ → List ℕ → ℕ → List Place
places_at picks lows highs k = row (λ i. record { item = get_or picks i 0; low = get_or lows i 0; high = get_or highs i 0 }) k

-- The three slices hold k places, and `needed` bytes have room in the slice from `at` on
pub record LineRoom (needed k : ℕ) (picks lows highs out : List ℕ) (at : ℕ) : Type 0 where
  pub picks_long : k ≤ length picks
  pub lows_long : k ≤ length lows
  pub highs_long : k ≤ length highs
  pub room : at + needed ≤ length out
