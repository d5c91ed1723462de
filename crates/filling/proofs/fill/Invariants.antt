-- `filling::fill`, the loop's invariant: the first j places hold the pairs and the rest is as lent.
-- Assumes nothing.
use mathlib.Core.Path.{◌≡◌}
use Rattle.model.specs.Words.{row, over}
use Rattle.filling.specs.Clauses.{every_fourth}
use Rattle.filling.proofs.fill.Given as goal

abbrev pub invariant-loop-j : goal.invariant-loop-j
invariant-loop-j l = l.slice ≡ over (row (every_fourth l.bytes l.from) l.j) l.initial.slice
