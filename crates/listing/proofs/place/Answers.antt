-- `listing::place` meets its contract: three numbers one after the other.
-- Assumes nothing.
use Rattle.fields.specs.Appending.{appended_then}
use Rattle.listing.proofs.place.Goals as goal

pub returns-clause-text : goal.returns-clause-text
returns-clause-text c =
    rw (← c.from.ensures)
    (appended_then (appended_then c.spaced.ensures.text c.coloned.ensures.text) c.coloned-2.ensures.text)
