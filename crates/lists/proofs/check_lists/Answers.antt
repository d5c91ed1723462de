-- `lists::check_lists` meets its contract: past the tests of the shape it is accepted, or refused in a list.
-- Assumes nothing.
use Rattle.std.proofs.Common.{rules}
use mathlib.Core.Path.{sym, ◌∙◌}
use Rattle.poses.specs.Sets.{set_of}
use Rattle.lists.proofs.Whole.{shape_passes, accepted_lists, refused_lists}
use Rattle.lists.proofs.check_lists.Goals as goal

pub returns-else-is_err : goal.returns-else-is_err
returns-else-is_err c =
    let s = set_of c.args.set in
    let sized = sym c.wrong_size.ensures ∙ c.if-wrong_size.false in
    let shape = shape_passes s c.args.work.now sized c.if-set-size.false c.if-set-size-2.false c.if-work-size.false in
    accepted_lists s c.args.work.now shape c.note_lists-found.result (search rules) c.note_lists-found.ensures

pub returns-then-is_err : goal.returns-then-is_err
returns-then-is_err c =
    let s = set_of c.args.set in
    let sized = sym c.wrong_size.ensures ∙ c.if-wrong_size.false in
    let shape = shape_passes s c.args.work.now sized c.if-set-size.false c.if-set-size-2.false c.if-work-size.false in
    refused_lists s c.args.work.now shape c.note_lists-found.result (search rules) c.note_lists-found.ensures _ (search rules)
