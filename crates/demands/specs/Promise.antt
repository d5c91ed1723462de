-- What the four searches owe, for every valid pose set s, every query q and every k from 1 to n.
--     Tallied        of a list of accesses: the three counts add up to the tally's sum, and no entry is above m
--     Owed           what each of the four owes: it stops by its own test, returns k different items, and the best ones
--     all_made        all accesses that a search makes until it stops, of whatever kind
--     Promise        all that is claimed of the four
--     Claim          that it holds of every valid pose set, query and k; `promised` of Promised.antt proves it
-- Assumes nothing.
use Rattle.std.specs.Prelude.{◌≡◌, true, false, List, ℕ, ◌+◌, ◌-◌, ◌*◌, ◌≤◌, ◌<◌, length, get_or}
use Rattle.model.specs.Given.{Poses, Query, total}
use Rattle.model.specs.Accesses.{Access, sorted, direct, random, rows_ta, rounds, rows_nra, times, met, made, tally}
use Rattle.model.specs.Searches.{Search, among, kept, stops, rows, TA, BPA, BPA2, NRA, low_nra, high_nra}
use Rattle.laws.specs.Accepted.{Valid}
use Rattle.laws.specs.Passing.{passing}
use Rattle.laws.specs.Sums.{sum}

-- "Tally: It is at most m. The three counts add up to its sum."
pub record Tallied (s : Poses) (tr : List Access) : Type 0 where
  pub adds_up : made sorted tr + made direct tr + made random tr ≡ sum (tally s tr)
  pub at_most_m : (x : ℕ) → get_or (tally s tr) x 0 ≤ s.m

-- What each of the four searches owes
pub record Owed (s : Poses) (q : Query) (k : ℕ) (r : Search) : Type 0 where
  -- "All four stop at row or round n at the latest": the search's own test holds there
  pub last_row : stops s k r s.n ≡ true
  -- it stops because its own test holds, and not because a counter ran out
  pub own_test : stops s k r (rows s k r) ≡ true
  -- at a row from 1 to n, and at none before it
  pub row_least : 1 ≤ rows s k r
  pub row_most : rows s k r ≤ s.n
  pub not_sooner : (p : ℕ) → 1 ≤ p → p < rows s k r → stops s k r p ≡ false
  -- it returns k different items
  pub size : length (kept s k r (rows s k r)) ≡ k
  pub items : (d : ℕ) → among d (kept s k r (rows s k r)) ≡ true → d < s.n
  pub different : (a b : ℕ) → a < k → b < k
      → get_or (kept s k r (rows s k r)) a 0 ≡ get_or (kept s k r (rows s k r)) b 0 → a ≡ b
  -- no item left out has a higher overall score than one returned
  pub highest : (d e : ℕ) → d < s.n → among d (kept s k r (rows s k r)) ≡ false
      → among e (kept s k r (rows s k r)) ≡ true → total s q d ≤ total s q e
  -- after each row the three counts add up to the tally's sum, and no position was visited more than m times
  pub tallied : (p : ℕ) → p ≤ s.n → Tallied s (r.accesses p)

-- all accesses that a search makes until it stops
unfoldable pub all_made : Poses → ℕ → Search → ℕ
all_made s k r = let tr = r.accesses (rows s k r) in made sorted tr + made direct tr + made random tr

pub record Promise (s : Poses) (q : Query) (k : ℕ) : Type 0 where
  -- each stops by its own test and returns k different items, and no item left out scores above one returned
  pub ta : Owed s q k (TA s q)
  pub bpa : Owed s q k (BPA s q)
  pub bpa2 : Owed s q k (BPA2 s q)
  pub nra : Owed s q k (NRA s q)
  -- an item's overall score lies between NRA's low and high, after any number of rows
  pub nra_low : (p d : ℕ) → d < s.n → low_nra s q p d ≤ total s q d
  pub nra_high : (p d : ℕ) → d < s.n → total s q d ≤ high_nra s q p d
  -- BPA reads no more rows than TA
  pub bpa_rows : rows s k (BPA s q) ≤ rows s k (TA s q)
  -- BPA2 makes no more rounds than BPA reads rows
  pub bpa2_rows : rows s k (BPA2 s q) ≤ rows s k (BPA s q)
  -- BPA2 visits no position of any list twice
  pub bpa2_once : (r i p : ℕ) → i < s.m → p < s.n → times (rounds s r) i p ≤ 1
  -- its accesses are m for each item met: one direct, m - 1 random, none sorted
  pub bpa2_length : (r : ℕ) → length (rounds s r) ≡ s.m * passing (met s (rounds s r)) s.n
  pub bpa2_direct : (r : ℕ) → made direct (rounds s r) ≡ passing (met s (rounds s r)) s.n
  pub bpa2_random : (r : ℕ) → made random (rounds s r) ≡ (s.m - 1) * made direct (rounds s r)
  pub bpa2_sorted : (r : ℕ) → made sorted (rounds s r) ≡ 0
  -- TA and BPA: m sorted accesses a row, each with m - 1 random ones, and no direct one
  pub rows_sorted : (p : ℕ) → made sorted (rows_ta s p) ≡ p * s.m
  pub rows_random : (p : ℕ) → made random (rows_ta s p) ≡ p * (s.m * (s.m - 1))
  pub rows_direct : (p : ℕ) → made direct (rows_ta s p) ≡ 0
  -- NRA: m sorted accesses a row and no others
  pub nra_sorted : (p : ℕ) → made sorted (rows_nra s p) ≡ p * s.m
  pub nra_direct : (p : ℕ) → made direct (rows_nra s p) ≡ 0
  pub nra_random : (p : ℕ) → made random (rows_nra s p) ≡ 0
  -- BPA2 makes no more accesses in all than BPA, and BPA no more than TA
  pub bpa2_total : all_made s k (BPA2 s q) ≤ all_made s k (BPA s q)
  pub bpa_total : all_made s k (BPA s q) ≤ all_made s k (TA s q)

-- the promise holds for every valid pose set, every query and every k from 1 to n
abbrev pub Claim : Type 0
Claim = (s : Poses) → Valid s → (q : Query) (k : ℕ) → 1 ≤ k → k ≤ s.n → Promise s q k
