-- The greatest of some numbers, as `max` picks it.
--     greatest_picked        one of the numbers that none is above is the greatest, and so is 0 where none is above it
-- Assumes nothing.
use Rattle.std.specs.Prelude.{EachIndex, Contains}
use Rattle.std.proofs.Common.{◌≡◌, sym, ◌∙◌, Bool, true, false, List, ℕ, ◌≤◌, ◌⊎◌, ⊎_elim, ltb, length, get_or, arith, ltb-true, ltb-false, le-ltb}
use Rattle.std.proofs.lemmas.List.{get_or_default}
use Rattle.model.specs.Words.{some_below}
use Rattle.laws.specs.Tests.{by_cases, some_hit, some_none}
use Rattle.sweeps.specs.Clauses.{Greatest}

module _ (numbers : List ℕ) (most : ℕ) where
  -- one of the numbers is above the bar
  abbrev some_above : ℕ → Bool
  some_above bar = some_below (λ q. ltb bar (get_or numbers q 0)) (length numbers)

  found_above : (bar : ℕ) → ltb bar most ≡ true → Contains numbers most → some_above bar ≡ true
  found_above bar y at =
      let there : get_or numbers at.0 0 ≡ most = get_or_default numbers at.0 0 most at.1 ∙ at.2 in
      some_hit (λ q. ltb bar (get_or numbers q 0)) (length numbers) at.0 at.1 (rw there y)

  pub greatest_picked : EachIndex numbers (λ k. get_or numbers k 0 ≤ most) → (most ≡ 0) ⊎ Contains numbers most → Greatest numbers most
  greatest_picked least one =
      record {
        above = λ bar.
            by_cases (ltb bar most)
            (λ (y : ltb bar most ≡ true).
            y ∙ sym (⊎_elim (λ (z : most ≡ 0). absurd (omega (arith, ltb-true bar most y))) (found_above bar y) one))
            (λ (n : ltb bar most ≡ false).
            n
            ∙ sym (some_none (λ q. ltb bar (get_or numbers q 0)) (length numbers)
            (λ q l. le-ltb bar (get_or numbers q 0) (omega (arith, least q l, ltb-false bar most n)))));
      }
