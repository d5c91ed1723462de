-- `entries::walk_list`, the loop's invariant: p positions have passed (`Walked`).
-- Assumes nothing.
use Rattle.entries.specs.Clauses.{poses}
use Rattle.entries.proofs.Walk.{Walked}
use Rattle.entries.proofs.walk_list.Given as goal

abbrev pub invariant-loop-p : goal.invariant-loop-p
invariant-loop-p l = Walked (poses 0 l.set.poses l.set.items.now l.set.scores.now) l.i l.places l.before l.p
