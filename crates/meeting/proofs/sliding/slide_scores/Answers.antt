-- `meeting::sliding::slide_scores` meets its contract.
-- Assumes nothing.
use Rattle.meeting.proofs.Moving.{moving_goes_on}
use Rattle.meeting.proofs.sliding.slide_scores.Goals as goal

pub loop-j-preserved : goal.loop-j-preserved
loop-j-preserved c = moving_goes_on c.loop-j.invariant c.loop-j-test.true
