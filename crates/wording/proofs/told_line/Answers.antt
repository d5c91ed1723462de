-- `wording::told_line` meets its contract: a refusal's line, or a search's, and neither is longer than its room.
-- Assumes nothing.
use Rattle.wording.proofs.Writing.{found_asked, found_written, refusal_written}
use Rattle.wording.proofs.told_line.Goals as goal

pub returns-then-answer-ne0-clause-text : goal.returns-then-answer-ne0-clause-text
returns-then-answer-ne0-clause-text c =
    refusal_written c.if-answer-ne0.true c.refused_numbers.ensures.text c.refused_numbers.ensures.short

pub line-requires : goal.line-requires
line-requires c = found_asked _ _ c.if-answer-ne0.false c.requires

pub returns-clause-text : goal.returns-clause-text
returns-clause-text c = found_written c.if-answer-ne0.false c.requires c.line.ensures.text c.line.ensures.short
