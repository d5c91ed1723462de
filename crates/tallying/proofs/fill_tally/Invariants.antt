-- `tallying::fill_tally`, the loop's invariant: the parts of i lists are written.
-- Assumes nothing.
use mathlib.Core.Path.{◌≡◌}
use lib.Dec.{ltb}
use Rattle.model.specs.Words.{table, over}
use Rattle.laws.specs.Lookups.{once}
use Rattle.tallying.proofs.fill_tally.Given as goal

abbrev pub invariant-loop-i : goal.invariant-loop-i
invariant-loop-i l = l.tally ≡ over (table (λ i' q. once (ltb q l.p)) l.n l.i) l.initial.tally
