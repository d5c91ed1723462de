-- `completing::repeat_lows` meets its contract. The loop's invariant: the first i lows stand over what was lent.
-- Assumes nothing.
use Rattle.std.specs.Prelude.{◌≡◌, take}
use Rattle.model.specs.Words.{over}
use Rattle.completing.proofs.repeat_lows.Given as goal

abbrev pub invariant-loop-i : goal.invariant-loop-i
invariant-loop-i l = l.highs ≡ over (take l.i l.lows) l.initial.highs
