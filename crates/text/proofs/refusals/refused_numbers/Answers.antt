-- `refused_numbers` meets its contract: a word, three numbers and a newline one after the other.
-- Assumes nothing.
use Rattle.model.specs.Program.{refused_line}
use Rattle.fields.specs.Appending.{appended_then}
use Rattle.text.proofs.refusals.refused_numbers.Goals as goal

pub returns-clause-text : goal.returns-clause-text
unfolding refused_line
returns-clause-text c =
    let one = appended_then c.word.ensures.text c.spaced.ensures.text in
    let two = appended_then one c.spaced-2.ensures.text in
    let three = appended_then two c.spaced-3.ensures.text in
    appended_then three c.put.ensures.text
