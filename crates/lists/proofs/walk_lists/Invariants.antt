-- `lists::walk_lists`, the loop's invariant: i lists have passed and their rows are noted (`RowsNoted`).
-- Assumes nothing.
use Rattle.poses.specs.Sets.{set_of}
use Rattle.lists.proofs.Rows.{RowsNoted}
use Rattle.lists.proofs.walk_lists.Given as goal

abbrev pub invariant-loop-i : goal.invariant-loop-i
invariant-loop-i l = RowsNoted (set_of l.set) l.initial.work l.work l.i
