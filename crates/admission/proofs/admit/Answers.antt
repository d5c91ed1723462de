-- `admission::admit` meets its contract: refused by its own tests, or answered by the list check.
-- Assumes nothing.
use Rattle.std.proofs.Common.{rules}
use Rattle.admission.proofs.Tested.{admitted_refused, admitted_checked}
use Rattle.admission.proofs.admit.Goals as goal

pub returns-in_err-shape : goal.returns-in_err-shape
returns-in_err-shape c =
    let s = c.args.set in
    let q = c.args.query in
    let l = c.args.lengths in
    let refused = admitted_refused s.lists s.poses q.rule q.count q.weights.now s.items.now s.scores.now l.picks l.lows l.highs l.tally
    c.args.work.now c.in_err-shape.field-0.0 c.in_err-shape.ensures.tells in
    search rules

pub returns : goal.returns
returns c =
    let s = c.args.set in
    let q = c.args.query in
    let l = c.args.lengths in
    admitted_checked s.lists s.poses q.rule q.count q.weights.now s.items.now s.scores.now l.picks l.lows l.highs l.tally
    c.args.work.now c.in_ok-shape.ensures.passes c.check_lists.ensures
