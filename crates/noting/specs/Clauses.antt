-- The records that the contracts of `noting` cite.
--     Visitable, visited_once         what the visit of an item in every list asks; the tally afterwards
--     Walkable, walked_to             what a walk to a list's best position asks; where it ends
--     Advancing, Advanced            the same for every list
-- Assumes nothing.
use Rattle.std.specs.Prelude.{◌≡◌, ◌&&◌, List, ℕ, ◌+◌, ◌-◌, ◌*◌, ◌≤◌, ◌<◌, ltb, eqb, length, get_or}
use Rattle.model.specs.Words.{first, table, over}
use Rattle.laws.specs.Lookups.{once}

-- Item d has a position in each of m lists that lie within the tally and the work slice, and no count there is too large
pub record Visitable (d m n : ℕ) (tally work : List ℕ) : Type 0 where
  pub item_small : d < n
  pub tally_long : m * n ≤ length tally
  pub work_long : m * n ≤ length work
  pub place_least : (i : ℕ) → i < m → 1 ≤ get_or work (i * n + d) 0
  pub place_most : (i : ℕ) → i < m → get_or work (i * n + d) 0 ≤ n
  pub count_small : (i : ℕ) → i < m → get_or tally (i * n + (get_or work (i * n + d) 0 - 1)) 0 ≤ 8

-- one visit more at item d's position in each of the first b lists; the work slice's positions count from one
unfoldable pub visited_in : ℕ → ℕ → ℕ → List ℕ → List ℕ → ℕ → List ℕ
visited_in d m n work tally b =
    over (table (λ i p. get_or tally (i * n + p) 0 + once (ltb i b && eqb (get_or work (i * n + d) 0 - 1) p)) n m) tally

unfoldable pub visited_once : ℕ → ℕ → ℕ → List ℕ → List ℕ → List ℕ
visited_once d m n work tally = visited_in d m n work tally m

-- List i lies within the tally, and its positions before `from` were visited
pub record Walkable (i m n b : ℕ) (tally : List ℕ) : Type 0 where
  pub list_within : i < m
  pub from_within : b ≤ n
  pub tally_long : m * n ≤ length tally
  pub visited_before : (p : ℕ) → p < b → get_or tally (i * n + p) 0 ≡ 0 → ⊥

-- the first position of list i that was not visited
unfoldable pub walked_to : ℕ → ℕ → List ℕ → ℕ
walked_to i n tally = first (λ p. eqb (get_or tally (i * n + p) 0) 0) n 0

-- Each list lies within the tally, and its positions before the one that stands for it were visited
pub record Advancing (m n : ℕ) (reach tally : List ℕ) : Type 0 where
  pub m_most : m ≤ 8
  pub walkable : (i : ℕ) → i < m → Walkable i m n (get_or reach i 0) tally

-- for each list, the first position that was not visited
pub record Advanced (m n : ℕ) (tally reach : List ℕ) : Type 0 where
  pub walked : (i : ℕ) → i < m → get_or reach i 0 ≡ walked_to i n tally
