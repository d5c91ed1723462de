-- A search by a number that is neither 0 nor 2 is BPA.
--     search_other, steps_other      its search and its accesses are those of number 1
--     ran_other                      and so a run that is BPA's is its own
-- Assumes nothing.
use mathlib.Core.Path.{◌≡◌, ap, ◌∙◌}
use mathlib.Core.Bool.{Bool, false, cond}
use mathlib.Core.List.{List}
use Prim.Native.Nat.{ℕ}
use lib.Dec.{eqb}
use borrow.Author.Tests.{ne_eqb}
use Rattle.model.specs.Given.{Poses, Query}
use Rattle.model.specs.Accesses.{rows_ta, rounds, best}
use Rattle.model.specs.Searches.{Search, threshold, by_score}
use Rattle.meeting.specs.declared.Found.{Found}
use Rattle.scored.specs.Run.{steps_by, reach_by, search_by, RanBy}

-- the search by what its number's two tests answer
search_of : Poses → Query → Bool → Bool → Search
search_of s q is_ta is_bpa2 =
    by_score s q (λ p. cond is_bpa2 (rounds s p) (rows_ta s p))
    (λ p. threshold s q (λ i. cond is_ta p (best s (cond is_bpa2 (rounds s p) (rows_ta s p)) i)))

module _ (which : ℕ) (not_ta : which ≡ 0 → ⊥) (not_bpa2 : which ≡ 2 → ⊥) (s : Poses) (q : Query) where
  steps_other : (p : ℕ) → steps_by which s p ≡ steps_by 1 s p
  unfolding steps_by
  steps_other p = rw (ne_eqb which 2 not_bpa2)

  search_other : search_by which s q ≡ search_by 1 s q
  unfolding search_of search_by steps_by reach_by
  search_other =
      ap (λ is_ta. search_of s q is_ta (eqb which 2)) (ne_eqb which 0 not_ta)
      ∙ ap (search_of s q false) (ne_eqb which 2 not_bpa2)

  pub ran_other : {k : ℕ} {picks₀ lows₀ tally₀ picks lows marks : List ℕ} {d : Found} → RanBy 1 s q k picks₀ lows₀ tally₀ d picks lows marks
      → RanBy which s q k picks₀ lows₀ tally₀ d picks lows marks
  ran_other {d} ran =
      record {
        rows_are = rw search_other ran.rows_are;
        sorted_are = rw (steps_other d.rows) ran.sorted_are;
        direct_are = rw (steps_other d.rows) ran.direct_are;
        random_are = rw (steps_other d.rows) ran.random_are;
        picks_are = rw search_other ran.picks_are;
        lows_are = rw search_other ran.lows_are;
        tally_is = rw (steps_other d.rows) ran.tally_is;
      }
