-- The loop of `halting::blocker`: no item stood in the way so far.
-- Assumes nothing.
use Rattle.std.specs.Prelude.{◌≡◌, true, ℕ, ◌<◌, get_or}
use Rattle.meeting.specs.Clauses.{view_of}
use Rattle.halting.specs.Clauses.{passes_of}
use Rattle.halting.proofs.blocker.Given as goal

abbrev pub invariant-loop-j : goal.invariant-loop-j
invariant-loop-j l = (x : ℕ) → x < l.j → passes_of (view_of l.rows.reading) l.p l.bar (get_or l.met x 0) ≡ true
