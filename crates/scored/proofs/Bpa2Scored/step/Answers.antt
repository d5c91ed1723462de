-- `scored::Bpa2::step` meets its contract: a round.
-- Assumes nothing.
use Rattle.scored.specs.Run.{steps_by, kind_by}
use Rattle.scored.proofs.Bpa2Scored.step.Goals as goal

pub returns-clause-steps : goal.returns-clause-steps
unfolding steps_by kind_by
returns-clause-steps c =
    let round = c.round.ensures.rounds in
    let p = c.args._p in
    let standing = c.requires.standing in
    let reached = c.requires.reached in
    record {
      goes = round.goes p standing reached;
      reached = round.reached p standing reached;
      counted = round.counted p standing reached;
      few = round.few;
    }
