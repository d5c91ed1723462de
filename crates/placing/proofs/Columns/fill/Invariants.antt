-- `fill` of columns, the loop's invariant: the rows are the first i places, then the rows as lent.
-- Assumes nothing.
use mathlib.Core.Path.{◌≡◌}
use Rattle.model.specs.Words.{row}
use Rattle.placing.specs.Rows.{place_at, onto}
use Rattle.placing.proofs.Columns.fill.Given as goal

abbrev pub invariant-loop-i : goal.invariant-loop-i
invariant-loop-i l = l.rows ≡ onto (row (place_at l.self.picks l.self.lows l.self.highs) l.i) l.initial.rows
