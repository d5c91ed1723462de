-- `sweeps::has_zero`, the loop's invariant: what is found among the numbers passed.
-- Assumes nothing.
use mathlib.Core.Path.{◌≡◌}
use lib.Dec.{eqb}
use lib.ListN.{get_or}
use Rattle.model.specs.Words.{some_below}
use Rattle.sweeps.proofs.has_zero.Given as goal

abbrev pub invariant-loop-number : goal.invariant-loop-number
invariant-loop-number l = l.found ≡ some_below (λ p. eqb (get_or l.numbers p 0) 0) l.number-index
