-- `places::search_rows` meets its contract by what its columns owe: no row where the search is refused, and else the first k.
-- Assumes nothing.
use Rattle.std.specs.Prelude.{Err}
use Rattle.std.proofs.Common.{refl, rules, ne_eqb}
use Rattle.poses.specs.Refusals.{number_some}
use Rattle.answers.specs.Clauses.{answer_of}
use Rattle.placing.specs.Rows.{onto_none}
use Rattle.places.proofs.search_rows.Goals as goal

pub returns-in_err-found : goal.returns-in_err-found
returns-in_err-found c =
    let a = c.args in
    let refusal = c.in_err-found.field-0.0 in
    let left = rw (ne_eqb (answer_of (Err refusal)).number 0 (number_some refusal), onto_none) at (c.in_err-found.ensures.owed a.rows.now refl) in
    search rules

pub fill-requires : goal.fill-requires
fill-requires c = (c.in_ok-found.ensures.count_most, c.in_ok-found.ensures.count_room)

pub returns : goal.returns
returns c = rw c.fill.ensures (c.in_ok-found.ensures.owed c.args.rows.now refl)
