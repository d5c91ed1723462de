-- `coloned` meets its contract: a colon, then the number.
-- Assumes nothing.
use Rattle.model.specs.Program.{coloned}
use Rattle.fields.specs.Appending.{appended_then}
use Rattle.fields.proofs.Text.coloned.Goals as goal

pub returns-clause-text : goal.returns-clause-text
unfolding coloned
returns-clause-text c = appended_then c.put.ensures.text c.number.ensures.text
