-- `ranking::consider` meets its contract: an item whose mark reaches the bar is put into its place, any other changes nothing.
-- Assumes nothing.
use Rattle.std.proofs.Common.{arith}
use Rattle.halting.specs.Clauses.{legible}
use Rattle.ranking.proofs.Items.{considered_in, considered_out}
use Rattle.ranking.proofs.consider.Goals as goal

pub returns-then-own-top : goal.returns-then-own-top
returns-then-own-top c =
    considered_out (legible c.args.rows.sound c.requires.0 c.requires.1) c.requires.2 c.requires.3
    (omega (arith, rw c.from-d.ensures at c.if-own-top.true))

pub returns : goal.returns
returns c =
    let item_is = c.from-d.ensures in
    considered_in (legible c.args.rows.sound c.requires.0 c.requires.1) c.requires.2 c.requires.3
    (omega (arith, rw item_is at c.if-own-top.false, c.requires.4)) (rw item_is at c.high-high.ensures) (rw item_is at c.keep.ensures)
