-- `noting::visits::visit` meets its contract. The loop's invariant: the first i lists are visited (`visited_in`).
-- Assumes nothing.
use mathlib.Core.Path.{◌≡◌}
use Rattle.noting.specs.Clauses.{visited_in}
use Rattle.noting.proofs.visits.visit.Given as goal

abbrev pub invariant-loop-i : goal.invariant-loop-i
invariant-loop-i l = l.tally ≡ visited_in l.d l.reading.set.lists l.reading.set.poses l.reading.places.now l.initial.tally l.i
