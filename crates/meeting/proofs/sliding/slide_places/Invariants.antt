-- `meeting::sliding::slide_places` meets its contract. The loop's invariant: in both slices the entries from j on are moved one place on
-- (`Moving`).
-- Assumes nothing.
use Rattle.meeting.proofs.Moving.{Moving}
use Rattle.meeting.proofs.sliding.slide_places.Given as goal

abbrev pub invariant-loop-j : goal.invariant-loop-j
invariant-loop-j l = Moving l.initial.picks l.seat l.last l.picks l.j × Moving l.initial.lows l.seat l.last l.lows l.j
