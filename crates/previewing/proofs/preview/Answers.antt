-- `previewing::preview` meets its contract where the query is refused.
-- Assumes nothing.
use Rattle.std.proofs.Common.{sym}
use Rattle.previewing.specs.Cases.{query_refused_line}
use Rattle.previewing.proofs.Printing.{previewed}
use Rattle.previewing.proofs.preview.Goals as goal

pub returns-in-Err-clause-text : goal.returns-in-Err-clause-text
returns-in-Err-clause-text c = previewed (sym (query_refused_line c.in-Err.ensures)) c.refused.ensures
