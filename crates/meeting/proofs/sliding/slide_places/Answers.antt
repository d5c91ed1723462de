-- `meeting::sliding::slide_places` meets its contract.
-- Assumes nothing.
use Rattle.meeting.proofs.Moving.{moving_goes_on}
use Rattle.meeting.proofs.sliding.slide_places.Goals as goal

pub loop-j-preserved : goal.loop-j-preserved
loop-j-preserved c =
    let further = c.loop-j-test.true in
    (moving_goes_on c.loop-j.invariant.0 further, moving_goes_on c.loop-j.invariant.1 further)
