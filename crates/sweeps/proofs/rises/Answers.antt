-- `sweeps::rises` meets its contract: a pair of neighbours more rises or does not.
-- Assumes nothing.
use mathlib.Core.Path.{◌≡◌, refl}
use Prim.Native.Nat.{◌+◌, ◌-◌}
use native.Mathlib.Numerals.{add-one}
use native.Mathlib.Omega.{arith}
use lib.ListN.{length}
use Rattle.model.specs.Words.{some_below}
use Rattle.sweeps.proofs.rises.Goals as goal

pub loop-q-init : goal.loop-q-init
unfolding some_below
loop-q-init c = record { within = omega arith; found_is = refl }

pub loop-q-preserved : goal.loop-q-preserved
unfolding some_below
loop-q-preserved c =
    let q = c.loop-q.q in
    let again : q - 1 + 1 ≡ q = omega arith in
    let next : q + 1 - 1 ≡ q - 1 + 1 = omega arith in
    record { within = omega arith; found_is = rw (next, add-one (q - 1), again, c.loop-q.invariant.found_is) }

pub returns : goal.returns
returns c =
    let all : c.loop-q.q - 1 ≡ length c.args.numbers.now - 1 = omega arith in
    rw (← all) c.loop-q.invariant.found_is
