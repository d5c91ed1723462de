-- `passing::note_until_rise`, the loop's invariant: no score of i lists rises, their items are noted (`SweptTo`).
-- Assumes nothing.
use Rattle.poses.specs.Sets.{set_of}
use Rattle.passing.proofs.Rows.{SweptTo}
use Rattle.passing.proofs.note_until_rise.Given as goal

abbrev pub invariant-loop-i : goal.invariant-loop-i
invariant-loop-i l = SweptTo (set_of l.set) l.places l.i
