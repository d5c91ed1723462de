-- `lines::one_line` meets its contract: what the search leaves in the three slices is its shortlist, and the answer with it
-- makes the search's line.
-- Assumes nothing.
use Rattle.poses.specs.Methods.{method_number}
use Rattle.lines.proofs.Writing.{answer_room, line_made}
use Rattle.lines.proofs.one_line.Goals as goal

pub written-requires : goal.written-requires
written-requires c =
    let long = c.search-found.ensures.lengths in
    answer_room c.search-found.ensures.answer long.picks_long long.lows_long long.highs_long c.requires

pub returns-in-Ok-clause-line : goal.returns-in-Ok-clause-line
returns-in-Ok-clause-line c =
    line_made (method_number c.args.method) c.search-found.result c.search-found.ensures.answer (rw c.in-Ok.is) c.written.ensures.text

pub returns-in-Err-clause-line : goal.returns-in-Err-clause-line
returns-in-Err-clause-line c =
    line_made (method_number c.args.method) c.search-found.result c.search-found.ensures.answer (rw c.in-Err.is) c.written.ensures.text
