-- `spaced` meets its contract: a space, then the number.
-- Assumes nothing.
use Rattle.model.specs.Program.{spaced}
use Rattle.fields.specs.Appending.{appended_then}
use Rattle.fields.proofs.Text.spaced.Goals as goal

pub returns-clause-text : goal.returns-clause-text
unfolding spaced
returns-clause-text c = appended_then c.put.ensures.text c.number.ensures.text
