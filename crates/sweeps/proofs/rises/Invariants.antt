-- `sweeps::rises`, the loop's invariant: what is found among the pairs of neighbours before q.
-- Assumes nothing.
use mathlib.Core.Path.{◌≡◌}
use Prim.Native.Nat.{◌+◌, ◌-◌, ◌≤◌}
use lib.Dec.{ltb}
use lib.ListN.{length, get_or}
use Rattle.model.specs.Words.{some_below}
use Rattle.sweeps.proofs.rises.Given as goal

abbrev pub invariant-loop-q : goal.invariant-loop-q
invariant-loop-q l =
    record {
      within : l.q - 1 ≤ length l.numbers - 1;
      found_is : l.found ≡ some_below (λ p. ltb (get_or l.numbers p 0) (get_or l.numbers (p + 1) 0)) (l.q - 1);
    }
