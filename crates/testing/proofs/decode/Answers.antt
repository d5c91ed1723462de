-- `testing::decode` meets its contract: below m the weights are decoded, and from m on there is none.
-- Assumes nothing.
use mathlib.Core.Path.{◌≡◌, sym, ◌∙◌}
use mathlib.Core.Bool.{true, false}
use native.Mathlib.Omega.{arith}
use lib.Dec.{ltb}
use borrow.Author.Tests.{ltb-true, ltb-false}
use Rattle.laws.specs.Tests.{by_cases}
use Rattle.testing.specs.Weights.{weight_past}
use Rattle.testing.proofs.decode.Goals as goal

pub returns : goal.returns
returns c =
    record {
      weight = λ j.
          by_cases (ltb j c.args.m)
          (λ (y : ltb j c.args.m ≡ true). c.loop-i.invariant.1 j (omega (arith, ltb-true j c.args.m y)))
          (λ (z : ltb j c.args.m ≡ false).
          let past = ltb-false j c.args.m z in
          c.loop-i.invariant.2 j (omega arith) ∙ sym (weight_past c.args.weights.now c.args.m j c.requires.1 past));
    }
