-- How long a line is at most, for a caller who writes one after the other.
--     spaced_wide        a space and a number of 32 bits: 11 bytes
--     refused_most       the line of a refusal: 41 bytes
--     line_most          the line of a search: its name, 45 bytes, and 28 for each place
-- Assumes nothing.
use Rattle.std.specs.Prelude.{List, ℕ, ◌+◌, ◌*◌, ◌^◌, ◌≤◌, ◌<◌, length, get_or}
use Rattle.std.proofs.Common.{arith, length-append}
use Rattle.model.specs.Answers.{Place}
use Rattle.model.specs.Program.{spaced, places_text, line, refused_line}
use Rattle.fields.specs.Numbers.{decimal_wide}
use Rattle.listing.specs.Clauses.{places_at}
use Rattle.listing.specs.Places.{places_most}

-- a space, then at most ten digits
pub spaced_wide : (x : ℕ) → x < 2 ^ 32 → length (spaced x) ≤ 11
unfolding spaced
spaced_wide x h = omega (arith, decimal_wide x h)

pub refused_most : (number i p : ℕ) → number < 2 ^ 32 → i < 2 ^ 32 → p < 2 ^ 32 → length (refused_line number i p) ≤ 41
unfolding refused_line
refused_most number i p a b c =
    simp length-append (omega (arith, spaced_wide number a, spaced_wide i b, spaced_wide p c))

line_long : (name : List ℕ) (rows sorted' direct' random' : ℕ) (places : List Place)
    → rows < 2 ^ 32 → sorted' < 2 ^ 32 → direct' < 2 ^ 32 → random' < 2 ^ 32
    → length (line name rows sorted' direct' random' places) ≤ length name + 45 + length (places_text places)
unfolding line
line_long name rows sorted' direct' random' places a b c d =
    simp length-append
    (omega (arith, spaced_wide rows a, spaced_wide sorted' b, spaced_wide direct' c, spaced_wide random' d))

pub line_most : (name : List ℕ) (rows sorted' direct' random' k : ℕ) (picks lows highs : List ℕ)
    → rows < 2 ^ 32 → sorted' < 2 ^ 32 → direct' < 2 ^ 32 → random' < 2 ^ 32
    → ((i : ℕ) → get_or picks i 0 < 2 ^ 16) → ((i : ℕ) → get_or lows i 0 < 2 ^ 32) → ((i : ℕ) → get_or highs i 0 < 2 ^ 32)
    → length (line name rows sorted' direct' random' (places_at picks lows highs k)) ≤ length name + 45 + 28 * k
line_most name rows sorted' direct' random' k picks lows highs a b c d e f g =
    let places = places_at picks lows highs k in
    omega (arith, line_long name rows sorted' direct' random' places a b c d, places_most picks lows highs k e f g)
