-- What a list of accesses has visited: best positions, and the first p positions of every list.
--     visited_least, least_visited, unvisited    visited is visited once or more
--     visited_more               what was visited stays visited
--     best_most                  a best position is at most n
--     best_visited, best_free    all positions up to it are visited; the next one is not
--     best_reaches, best_wider   it is p or more where the first p are visited; with more visits it is no smaller
--     Covers                     the first p positions of every list are visited
--     visited_met                an item is met where one of its places is visited
--     unmet_unvisited, unmet_below       an unmet item's places are not, and lie below whatever is visited from the top
-- Assumes nothing.
use Rattle.std.specs.Prelude.{◌≡◌, true, false, List, ◌++◌, ℕ, ◌≤◌, ◌<◌, ltb}
use Rattle.std.proofs.Common.{sym, ◌∙◌, true≢false, arith}
use Rattle.std.proofs.Math.Bool.{not}
use borrow.Author.Tests.{leb-true, leb-false, le-leb, ltb-true, ltb-false, not-true, not-false}
use Rattle.model.specs.Words.{first}
use Rattle.model.specs.Given.{Poses, place}
use Rattle.model.specs.Accesses.{Access, times, visited, met, best}
use Rattle.laws.specs.Tests.{by_cases, some_hit, some_not, first_most, first_passes, first_skips}
use Rattle.laws.specs.Lookups.{times_append}

-- visited is visited at least once
pub visited_least : (tr : List Access) (i p : ℕ) → visited tr i p ≡ true → 1 ≤ times tr i p
unfolding visited
visited_least tr i p y = leb-true 1 (times tr i p) y

pub least_visited : (tr : List Access) (i p : ℕ) → 1 ≤ times tr i p → visited tr i p ≡ true
unfolding visited
least_visited tr i p h = le-leb 1 (times tr i p) h

pub unvisited : (tr : List Access) (i p : ℕ) → visited tr i p ≡ false → times tr i p ≡ 0
unfolding visited
unvisited tr i p z = omega (arith, leb-false 1 (times tr i p) z)

-- what was visited stays visited
pub visited_more : (tr more : List Access) (i p : ℕ) → visited tr i p ≡ true → visited (tr ++ more) i p ≡ true
visited_more tr more i p y =
    least_visited (tr ++ more) i p (omega (arith, visited_least tr i p y, times_append tr more i p))

module _ (s : Poses) where
  pub best_most : (tr : List Access) (i : ℕ) → best s tr i ≤ s.n
  unfolding best
  best_most tr i = omega (arith, first_most (λ p. not (visited tr i p)) s.n 0)

  pub best_visited : (tr : List Access) (i q : ℕ) → q < best s tr i → visited tr i q ≡ true
  unfolding best
  best_visited tr i q h =
      not-false (visited tr i q) (first_skips (λ p. not (visited tr i p)) s.n 0 q (omega arith) h)

  pub best_free : (tr : List Access) (i : ℕ) → best s tr i < s.n → visited tr i (best s tr i) ≡ false
  unfolding best
  best_free tr i h =
      let at = first (λ p. not (visited tr i p)) s.n 0 in
      not-true (visited tr i at) (first_passes (λ p. not (visited tr i p)) s.n 0 (omega arith))

  pub best_reaches : (tr : List Access) (i p : ℕ) → p ≤ s.n → ((q : ℕ) → q < p → visited tr i q ≡ true)
      → p ≤ best s tr i
  best_reaches tr i p l h =
      by_cases (ltb (best s tr i) p)
      (λ y.
      let short = ltb-true (best s tr i) p y in
      absurd (true≢false (sym (h (best s tr i) short) ∙ best_free tr i (omega arith))))
      (λ z. ltb-false (best s tr i) p z)

  pub best_wider : (tr more : List Access) (i : ℕ)
      → ((q : ℕ) → q < s.n → visited tr i q ≡ true → visited more i q ≡ true) → best s tr i ≤ best s more i
  best_wider tr more i h =
      let most = best_most tr i in
      best_reaches more i (best s tr i) most (λ q l. h q (omega arith) (best_visited tr i q l))

  -- the first p positions of every list are visited
  abbrev pub Covers : List Access → ℕ → Type 0
  Covers tr p = (i q : ℕ) → i < s.m → q < p → visited tr i q ≡ true

  -- one of an item's places is visited: it is met
  pub visited_met : (tr : List Access) (i d : ℕ) → i < s.m → visited tr i (place s i d) ≡ true → met s tr d ≡ true
  unfolding met
  visited_met tr i d hi y = some_hit (λ j. visited tr j (place s j d)) s.m i hi y

  pub unmet_unvisited : (tr : List Access) (i d : ℕ) → i < s.m → met s tr d ≡ false
      → visited tr i (place s i d) ≡ false
  unfolding met
  unmet_unvisited tr i d hi z = some_not (λ j. visited tr j (place s j d)) s.m i z hi

  -- where all positions before b of list i are visited, an unmet item stands at b or after it
  pub unmet_below : (tr : List Access) (i b d : ℕ) → i < s.m → ((q : ℕ) → q < b → visited tr i q ≡ true)
      → met s tr d ≡ false → b ≤ place s i d
  unmet_below tr i b d hi h z =
      by_cases (ltb (place s i d) b)
      (λ y. absurd (true≢false (sym (h (place s i d) (ltb-true (place s i d) b y)) ∙ unmet_unvisited tr i d hi z)))
      (λ x. ltb-false (place s i d) b x)
