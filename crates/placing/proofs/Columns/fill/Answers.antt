-- `fill` of columns meets its contract: none is written at first, and one row more in each turn (`onto_none`, `onto_more`).
-- Assumes nothing.
use mathlib.Core.Path.{sym}
use native.Mathlib.Omega.{arith}
use Rattle.placing.specs.Rows.{place_at, onto_none, onto_more}
use Rattle.placing.proofs.Columns.fill.Goals as goal

pub loop-i-init : goal.loop-i-init
loop-i-init c = sym (onto_none _ c.args.rows.now)

pub loop-i-preserved : goal.loop-i-preserved
loop-i-preserved c =
    let placed = place_at c.args.self.now.picks c.args.self.now.lows c.args.self.now.highs in
    rw (c.place.ensures, c.loop-i.invariant) (onto_more placed c.loop-i.i c.args.rows.now (omega arith))
