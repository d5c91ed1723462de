-- `text::named_line` meets its contract: the name, four numbers, the places and a newline one after the other.
-- Assumes nothing.
use Rattle.model.specs.Program.{line}
use Rattle.fields.specs.Appending.{appended_then}
use Rattle.text.proofs.named_line.Goals as goal

pub returns-clause-text : goal.returns-clause-text
unfolding line
returns-clause-text c =
    let one = appended_then c.word.ensures.text c.spaced.ensures.text in
    let two = appended_then one c.spaced-2.ensures.text in
    let three = appended_then two c.spaced-3.ensures.text in
    let four = appended_then three c.spaced-4.ensures.text in
    let placed = appended_then four c.places.ensures.text in
    appended_then placed c.put.ensures.text
