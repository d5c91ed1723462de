-- What any search returns at a row at which it stops, and the row at which it first does.
--     kept_size, kept_below, kept_once       k items, all below n, no two the same
--     stops_own                              a search that stops at row n stops by its own test
--     rows_least, rows_most                  it stops at row 1 at the earliest and n at the latest
--     rows_first                             and at no row before
--     rows_within                            it goes no further than a row at which it stops
-- Assumes nothing.
use Rattle.std.specs.Prelude.{◌≡◌, true, false, ℕ, ◌-◌, ◌≤◌, ◌<◌, leb, ltb, length, get_or, take}
use Rattle.std.proofs.Common.{arith}
use Rattle.std.proofs.Math.ListN.{length-take}
use borrow.Author.Tests.{leb-true, ltb-true, ltb-false}
use Rattle.model.specs.Words.{first}
use Rattle.model.specs.Given.{Poses}
use Rattle.model.specs.Accesses.{met}
use Rattle.model.specs.Searches.{Search, ahead, ranked, among, order, kept, stops, rows}
use Rattle.laws.specs.Tests.{by_cases, and_yes, first_least, first_most, first_passes, first_skips, first_within}
use Rattle.laws.specs.Ahead.{ahead_ordering}
use Rattle.laws.specs.Ranking.{sorted_take, sorted_once, ranked_sorted}
use Rattle.laws.specs.Kept.{kept_item}

module _ (s : Poses) (k : ℕ) (r : Search) where
  pub kept_size : (p : ℕ) → stops s k r p ≡ true → length (kept s k r p) ≡ k
  unfolding stops kept
  kept_size p y =
      let enough = (and_yes (leb k (length (kept s k r p))) (r.done p (kept s k r p)) y).0 in
      omega (arith, leb-true k (length (kept s k r p)) enough, length-take k (order s r p))

  pub kept_below : (p d : ℕ) → among d (kept s k r p) ≡ true → d < s.n
  unfolding kept order
  kept_below p d y = (kept_item (ahead (r.low p) (r.high p)) (met s (r.accesses p)) s.n k d y).0

  pub kept_once : (p a b : ℕ) → a < length (kept s k r p) → b < length (kept s k r p)
      → get_or (kept s k r p) a 0 ≡ get_or (kept s k r p) b 0 → a ≡ b
  unfolding kept order
  kept_once p =
      let before = ahead (r.low p) (r.high p) in
      let o = ahead_ordering (r.low p) (r.high p) in
      let t = met s (r.accesses p) in
      let all = ranked before t s.n in
      sorted_once before o (take k all) (sorted_take before k all (ranked_sorted before o t s.n))

  pub rows_least : 1 ≤ rows s k r
  unfolding rows
  rows_least = first_least (stops s k r) (s.n - 1) 1

  pub rows_most : 1 ≤ s.n → rows s k r ≤ s.n
  unfolding rows
  rows_most h = omega (arith, first_most (stops s k r) (s.n - 1) 1)

  -- the row is one at which the search's own test holds, and not one at which a counter ran out
  pub stops_own : 1 ≤ s.n → stops s k r s.n ≡ true → stops s k r (rows s k r) ≡ true
  unfolding rows
  stops_own h y =
      let at = first (stops s k r) (s.n - 1) 1 in
      by_cases (ltb at s.n)
      (λ x. let short = ltb-true at s.n x in first_passes (stops s k r) (s.n - 1) 1 (omega arith))
      (λ x.
      let last : at ≡ s.n = omega (arith, ltb-false at s.n x, first_most (stops s k r) (s.n - 1) 1) in
      rw last y)

  pub rows_first : (p : ℕ) → 1 ≤ p → p < rows s k r → stops s k r p ≡ false
  unfolding rows
  rows_first p h l = first_skips (stops s k r) (s.n - 1) 1 p h l

  pub rows_within : (p : ℕ) → 1 ≤ p → stops s k r p ≡ true → rows s k r ≤ p
  unfolding rows
  rows_within p h y = first_within (stops s k r) (s.n - 1) 1 p h y
