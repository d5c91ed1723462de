-- `sweeps::has_zero` meets its contract: a number more is 0 or is not (`found_next`).
-- Assumes nothing.
use mathlib.Core.Path.{refl}
use mathlib.Core.Bool.{Bool, or-false, or-true}
use Prim.Native.Nat.{ℕ}
use lib.Dec.{eqb}
use lib.ListN.{get_or}
use Rattle.model.specs.Words.{some_below}
use Rattle.sweeps.proofs.Found.{found_next}
use Rattle.sweeps.proofs.has_zero.Goals as goal

pub loop-number-init : goal.loop-number-init
unfolding some_below
loop-number-init c = refl

pub loop-number-preserved : goal.loop-number-preserved
loop-number-preserved c =
    let test : ℕ → Bool = λ p. eqb (get_or c.args.numbers.now p 0) 0 in
    found_next test c.loop-number.number-index c.loop-number.invariant
    (λ passes. rw passes (or-true c.loop-number.found)) (λ fails. rw fails (or-false c.loop-number.found))
