-- `filling::fill` meets its contract: a pair more is written at its place (`fill_more`).
-- Assumes nothing.
use mathlib.Core.Path.{refl}
use native.Mathlib.Numerals.{add-one}
use native.Mathlib.Omega.{arith}
use Rattle.model.specs.Words.{row, over}
use Rattle.filling.specs.Clauses.{every_fourth}
use Rattle.laws.specs.Lists.{fill_more}
use Rattle.filling.proofs.fill.Goals as goal

pub loop-j-init : goal.loop-j-init
unfolding over row
loop-j-init c = refl

pub loop-j-preserved : goal.loop-j-preserved
loop-j-preserved c =
    let j = c.loop-j.j in
    let f = every_fourth c.args.bytes.now c.args.from in
    rw (c.loop-j.invariant, c.pair_at.ensures.0, add-one j) (fill_more f j c.args.slice.now (omega (arith, c.requires.room)))
