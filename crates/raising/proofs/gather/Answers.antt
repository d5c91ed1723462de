-- `raising::gather` meets its contract: an item with no mark comes behind the items met.
-- Assumes nothing.
use Rattle.std.proofs.Common.{arith}
use Rattle.halting.specs.Gathering.{gathered_new}
use Rattle.raising.proofs.gather.Goals as goal

pub returns : goal.returns
returns c =
    record {
      gathers = λ n new marks long small is some g. gathered_new long small some g (omega (arith, is, c.if-old-gt0.false));
      grows = omega arith;
    }
