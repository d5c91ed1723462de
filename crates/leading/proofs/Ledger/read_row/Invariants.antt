-- The loop of a ledger's `read_row`: the items that stand at row p of the lists passed have their marks after the row, and the
-- k greatest and the items met are those of the marks as they are (`Partway`).
-- Assumes nothing.
use Rattle.std.specs.Prelude.{◌≤◌}
use Rattle.meeting.specs.Clauses.{view_of}
use Rattle.leading.specs.Clauses.{Partway, IsSameLedger}
use Rattle.leading.proofs.Ledger.read_row.Given as goal

abbrev pub invariant-loop-i : goal.invariant-loop-i
invariant-loop-i l =
    IsSameLedger l.fn.self l.self
    × Partway (view_of l.rows.reading) l.rows.reading.set.items.now l.p l.i l.k l.self.marks.now l.self.tops.now l.self.met.now l.self.count
    × (l.fn.self.count ≤ l.self.count)
