-- `noting::visits::advance` meets its contract. The loop's invariant: the first i lists are walked, the others stand as given.
-- Assumes nothing.
use mathlib.Core.Path.{◌≡◌}
use Prim.Native.Nat.{ℕ, ◌≤◌, ◌<◌}
use lib.ListN.{get_or}
use Rattle.noting.specs.Clauses.{walked_to}
use Rattle.noting.proofs.visits.advance.Given as goal

abbrev pub invariant-loop-i : goal.invariant-loop-i
invariant-loop-i l =
    ((j : ℕ) → j < l.i → get_or l.best j 0 ≡ walked_to j l.set.poses l.tally)
    × ((j : ℕ) → l.i ≤ j → get_or l.best j 0 ≡ get_or l.initial.best j 0)
