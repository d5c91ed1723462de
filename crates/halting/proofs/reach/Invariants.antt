-- The loop of `halting::reach`: the total is that of the entries passed.
-- Assumes nothing.
use Rattle.std.specs.Prelude.{◌≡◌}
use Rattle.halting.specs.Clauses.{listed_reach}
use Rattle.halting.proofs.reach.Given as goal

abbrev pub invariant-loop-item : goal.invariant-loop-item
invariant-loop-item l = l.total ≡ listed_reach l.item-index l.marks l.met l.bar
