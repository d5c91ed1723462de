-- `records::read_lists` meets its contract: the record is refused, or a slice is too short, or both slices are filled, each
-- by one call of `fill`.
-- Assumes nothing.
use Rattle.std.proofs.Common.{rules}
use Rattle.records.proofs.Reading.{sizes_read, head_refused, items_short, scores_short, lists_taken}
use Rattle.records.proofs.read_lists.Goals as goal
use Rattle.records.proofs.read_lists.Goals.{then-items-size-via-then-items-size, then-items-size-via-else-items-size+then-scores-size}

pub returns-in_err-lists_head : goal.returns-in_err-lists_head
returns-in_err-lists_head c =
    let left = head_refused c.args.bytes.now c.args.items.now c.args.scores.now c.in_err-lists_head.field-0.0 c.in_err-lists_head.ensures.tells in
    search rules

pub returns-then-items-size : goal.returns-then-items-size
returns-then-items-size c =
    let a = c.args in
    let sizes = sizes_read a.bytes.now c.in_ok-lists_head.ensures.passes c.lists_m-m.ensures.0 c.lists_n-n.ensures.0 in
    elim c.then-items-size.branch [
      | then-items-size-via-then-items-size w ↦ items_short a.bytes.now a.items.now a.scores.now sizes w.if-items-size.true
      | then-items-size-via-else-items-size+then-scores-size w ↦
          scores_short a.bytes.now a.items.now a.scores.now sizes w.if-items-size.false w.if-scores-size.true
    ]

pub returns : goal.returns
returns c =
    let a = c.args in
    let sizes = sizes_read a.bytes.now c.in_ok-lists_head.ensures.passes c.lists_m-m.ensures.0 c.lists_n-n.ensures.0 in
    lists_taken a.bytes.now a.items.now a.scores.now sizes c.if-items-size.false c.if-scores-size.false c.fill.ensures c.fill-2.ensures
