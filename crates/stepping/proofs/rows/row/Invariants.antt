-- `stepping::rows::row` meets its contract. The loop's invariant: the items at position p of the first i lists are met.
-- Assumes nothing.
use mathlib.Core.List.{◌++◌}
use Rattle.model.specs.Accesses.{row_ta, rows_ta}
use Rattle.poses.specs.Sets.{set_of}
use Rattle.meeting.specs.Clauses.{query_of}
use Rattle.noting.specs.Shortlists.{IsSameShortlist}
use Rattle.stepping.specs.State.{Goes}
use Rattle.stepping.proofs.rows.row.Given as goal

abbrev pub invariant-loop-i : goal.invariant-loop-i
invariant-loop-i l =
    let s = set_of l.reading.set in
    record {
      same : IsSameShortlist l.initial.shortlist l.shortlist;
      goes : Goes s (query_of l.reading) (rows_ta s l.p) (rows_ta s l.p ++ row_ta s l.p l.i) l.initial.shortlist l.initial.tally l.shortlist l.tally;
    }
