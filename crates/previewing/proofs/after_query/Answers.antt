-- `previewing::after_query` meets its contract: the lists are refused, or the searches run over the entries that were read, with
-- the weights chosen from either record.
-- Assumes nothing.
use Rattle.std.proofs.Common.{refl, sym, arith, rules, length-take-le}
use Rattle.records.specs.Settled.{query_within}
use Rattle.previewing.specs.Cases.{lists_refused_line, size_fit, all_searched}
use Rattle.previewing.proofs.Printing.{previewed}
use Rattle.previewing.proofs.after_query.Goals as goal

pub slice_bounds-lists-count : goal.slice_bounds-lists-count
slice_bounds-lists-count c = query_within c.requires.is_read _ refl

pub slice_bounds-lists-start : goal.slice_bounds-lists-start
slice_bounds-lists-start c = omega (arith, query_within c.requires.is_read _ refl)

pub overflow_mul-size : goal.overflow_mul-size
overflow_mul-size c =
    let fits = size_fit c.requires.is_read c.requires.room.items_are c.requires.room.scores_are c.in-Ok.ensures in
    omega (arith, fits)

pub slice_bounds-set-end : goal.slice_bounds-set-end
slice_bounds-set-end c =
    let fits = size_fit c.requires.is_read c.requires.room.items_are c.requires.room.scores_are c.in-Ok.ensures in
    omega (arith, fits, c.read_lists.auto.items, c.requires.room.items_are)

pub slice_bounds-set-end-in-Ok : goal.slice_bounds-set-end-in-Ok
slice_bounds-set-end-in-Ok c =
    let fits = size_fit c.requires.is_read c.requires.room.items_are c.requires.room.scores_are c.in-Ok.ensures in
    sym (length-take-le _ _ (omega (arith, fits, c.read_lists.auto.items, c.requires.room.items_are)))

pub slice_bounds-set-end-in-Ok-2 : goal.slice_bounds-set-end-in-Ok-2
slice_bounds-set-end-in-Ok-2 c =
    let fits = size_fit c.requires.is_read c.requires.room.items_are c.requires.room.scores_are c.in-Ok.ensures in
    omega (arith, fits, c.read_lists.auto.scores, c.requires.room.scores_are)

pub slice_bounds-set-end-in-Ok-3 : goal.slice_bounds-set-end-in-Ok-3
slice_bounds-set-end-in-Ok-3 c =
    let fits = size_fit c.requires.is_read c.requires.room.items_are c.requires.room.scores_are c.in-Ok.ensures in
    sym (length-take-le _ _ (omega (arith, fits, c.read_lists.auto.scores, c.requires.room.scores_are)))

pub returns-in-Ok-clause-text : goal.returns-in-Ok-clause-text
returns-in-Ok-clause-text c =
    let room = c.requires.room in
    let now = c.args.room.now in
    let text = all_searched c.requires.is_read room.items_are room.scores_are c.in-Ok.ensures
    c.chosen_weights.result.now now.picks.now now.lows.now now.highs.now now.tally.now now.work.now
    c.chosen_weights.ensures.holds room.picks_are room.lows_are room.highs_are room.tally_is room.work_is in
    previewed text c.searched.ensures.text

pub returns-in-Err-clause-text : goal.returns-in-Err-clause-text
returns-in-Err-clause-text c =
    let text = lists_refused_line c.requires.is_read c.requires.room.items_are c.requires.room.scores_are c.in-Err.ensures in
    previewed (sym text) (search rules)
