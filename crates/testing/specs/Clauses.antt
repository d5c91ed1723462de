-- The definitions that the contracts of `testing` cite.
--     Decoded        the weights as numbers
--     no_room_of       test 6, by the slices' lengths
-- Assumes nothing.
use Rattle.std.specs.Prelude.{◌≡◌, Bool, ◌||◌, List, ℕ, ltb, get_or}
use Rattle.model.specs.Refusals.{weight_of}

-- the weights as numbers, list by list, and 0 past the last
pub record Decoded (bytes numbers : List ℕ) : Type 0 where
  pub weight : (i : ℕ) → get_or numbers i 0 ≡ weight_of bytes i

-- test 6, by the slices' lengths
abbrev pub no_room_of : ℕ → ℕ → ℕ → ℕ → ℕ → ℕ → ℕ → Bool
no_room_of k size picks lows highs tally work =
    ltb picks k || ltb lows k || ltb highs k || ltb tally size || ltb work size
