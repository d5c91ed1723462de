-- `scored::run_by` meets its contract: by a number that is neither 0 nor 2 it is BPA.
-- Assumes nothing.
use native.Mathlib.Omega.{arith}
use Rattle.scored.proofs.Numbers.{ran_other}
use Rattle.scored.proofs.run_by.Goals as goal

pub returns-in_default : goal.returns-in_default
returns-in_default c = ran_other c.args.which (λ e. omega (arith, e)) (λ e. omega (arith, e)) _ _ c.run-in_default.ensures
