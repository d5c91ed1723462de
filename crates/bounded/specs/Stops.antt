-- The row after which NRA stops.
--     kept_held, stops_halts     NRA's first k items and its test, as `held` and `halts` of its lows, highs and met items
--     rows_are                   NRA stops after row r where the test holds there, or r is n, and fails after every row before
-- Assumes nothing.
use Rattle.std.specs.Prelude.{◌≡◌, true, false, ℕ, ◌-◌, ◌≤◌, ◌<◌, ltb}
use Rattle.std.proofs.Math.Path.{refl}
use Rattle.std.proofs.Common.{sym, ◌∙◌, true≢false, arith}
use borrow.Author.Tests.{ltb-true, ltb-false}
use Rattle.model.specs.Words.{first}
use Rattle.model.specs.Given.{Poses, Query}
use Rattle.model.specs.Accesses.{rows_nra, met}
use Rattle.model.specs.Searches.{low_nra, high_nra, NRA, order, kept, stops, rows}
use Rattle.laws.specs.Tests.{by_cases, first_most, first_least, first_passes, first_skips}
use Rattle.halting.specs.Bar.{held, halts}

module _ (s : Poses) (q : Query) (k : ℕ) where
  pub kept_held : (p : ℕ) → kept s k (NRA s q) p ≡ held s.n k (low_nra s q p) (high_nra s q p) (met s (rows_nra s p))
  unfolding kept order NRA held
  kept_held p = refl

  pub stops_halts : (p : ℕ)
      → stops s k (NRA s q) p ≡ halts s.n k (low_nra s q p) (high_nra s q p) (met s (rows_nra s p))
  unfolding stops kept order NRA halts held
  stops_halts p = refl

  pub rows_are : (r : ℕ) → 1 ≤ r → r ≤ s.n → (r < s.n → stops s k (NRA s q) r ≡ true)
      → ((p : ℕ) → 1 ≤ p → p < r → stops s k (NRA s q) p ≡ false) → rows s k (NRA s q) ≡ r
  unfolding rows
  rows_are r least most holds fails =
      let t = stops s k (NRA s q) in
      let x = first t (s.n - 1) 1 in
      let x_least = first_least t (s.n - 1) 1 in
      let x_most = first_most t (s.n - 1) 1 in
      by_cases (ltb x r)
      (λ y.
      let early = ltb-true x r y in
      absurd (true≢false (sym (first_passes t (s.n - 1) 1 (omega arith)) ∙ fails x x_least early)))
      (λ z.
      by_cases (ltb r x)
      (λ y.
      let late = ltb-true r x y in
      absurd (true≢false (sym (holds (omega arith)) ∙ first_skips t (s.n - 1) 1 r least late)))
      (λ w. omega (arith, ltb-false x r z, ltb-false r x w)))
