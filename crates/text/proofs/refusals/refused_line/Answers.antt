-- `refused_line` meets its contract: its three numbers are the refusal's.
-- Assumes nothing.
use Rattle.text.proofs.refusals.refused_line.Goals as goal

pub returns-clause-text : goal.returns-clause-text
returns-clause-text c = rw (← c.number.ensures, ← c.list.ensures, ← c.position.ensures) c.refused_numbers.ensures.text
