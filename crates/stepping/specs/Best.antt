-- The best positions that the tally slice tells.
--     walked_best        the walk in the tally slice ends at the list's best position
--     walkable_of        what such a walk asks
-- Assumes nothing.
use Rattle.std.specs.Prelude.{◌≡◌, true, false, List, ℕ, ◌+◌, ◌*◌, ◌≤◌, ◌<◌, leb, length, get_or}
use Rattle.std.proofs.Math.Bool.{not}
use Rattle.std.proofs.Common.{arith, eq-eqb, ne_eqb, leb-true, leb-false}
use Rattle.std.proofs.Math.Dec.{eqb}
use Rattle.model.specs.Given.{Poses, Query}
use Rattle.model.specs.Accesses.{Access, times, visited, best}
use Rattle.laws.specs.Tests.{by_cases, first_same}
use Rattle.laws.specs.Visits.{best_most, best_visited, visited_least}
use Rattle.noting.specs.Clauses.{Walkable, walked_to}
use Rattle.noting.specs.declared.shortlist.Shortlist.{Shortlist}
use Rattle.stepping.specs.State.{State}
use Rattle.stepping.specs.Steps.{mark_at}

-- a mark of 0 is a position that was not visited
mark_eqb : (x : ℕ) → eqb x 0 ≡ not (leb 1 x)
mark_eqb x =
    by_cases (leb 1 x)
    (λ (y : leb 1 x ≡ true). rw (y, ne_eqb x 0 (λ e. omega (arith, leb-true 1 x y))))
    (λ (z : leb 1 x ≡ false). rw (z, eq-eqb x 0 (omega (arith, leb-false 1 x z))))

module _ {s : Poses} {q : Query} {tr : List Access} {picks₀ lows₀ tally₀ marks : List ℕ} {l : Shortlist}
    (at : State s q tr picks₀ lows₀ tally₀ l marks) (i : ℕ) (hi : i < s.m) where
  pub walked_best : walked_to i s.n marks ≡ best s tr i
  unfolding walked_to best visited
  walked_best =
      first_same (λ p. eqb (get_or marks (i * s.n + p) 0) 0) (λ p. not (leb 1 (times tr i p))) s.n 0
      (λ p _ hp. rw (mark_at s tr tally₀ at.tally_is i p hi (omega arith)) (mark_eqb (times tr i p)))

  pub walkable_of : (b : ℕ) → s.m * s.n ≤ length tally₀ → b ≤ best s tr i → Walkable i s.m s.n b marks
  walkable_of b long reach =
      let most = best_most s tr i in
      record {
        list_within = hi;
        from_within = omega arith;
        tally_long = omega (arith, at.tally_as_long);
        visited_before = λ p hp e.
            let seen = visited_least tr i p (best_visited s tr i p (omega arith)) in
            omega (arith, mark_at s tr tally₀ at.tally_is i p hi (omega arith));
      }
