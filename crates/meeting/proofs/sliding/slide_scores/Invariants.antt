-- `meeting::sliding::slide_scores` meets its contract. The loop's invariant: the entries from j on are moved one place on (`Moving`).
-- Assumes nothing.
use Rattle.meeting.proofs.Moving.{Moving}
use Rattle.meeting.proofs.sliding.slide_scores.Given as goal

abbrev pub invariant-loop-j : goal.invariant-loop-j
invariant-loop-j l = Moving l.initial.list l.seat l.last l.list l.j
