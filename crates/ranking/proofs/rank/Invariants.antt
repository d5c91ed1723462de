-- The loop of `ranking::rank`: the three slices hold the first k of the items that reach the bar, among the entries passed (`FrontIn`).
-- Assumes nothing.
use Prim.Native.Nat.{◌-◌}
use Rattle.meeting.specs.Clauses.{view_of}
use Rattle.ranking.specs.Clauses.{FrontIn}
use Rattle.ranking.proofs.rank.Given as goal

abbrev pub invariant-loop-item : goal.invariant-loop-item
invariant-loop-item l =
    FrontIn (view_of l.rows.reading) l.k l.p (l.top - 1) l.met l.item-index l.initial.picks l.initial.lows l.initial.highs l.filled l.picks l.lows
    l.highs
