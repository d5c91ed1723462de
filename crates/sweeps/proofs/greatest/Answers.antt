-- `sweeps::greatest` meets its contract: `max` picks one of the numbers, and none is above it (`greatest_picked`).
-- Assumes nothing.
use Rattle.std.specs.Prelude.{EachIndex, Contains}
use Rattle.std.proofs.Common.{◌≡◌, ◌≤◌, ◌⊎◌, get_or, rules}
use Rattle.sweeps.proofs.Most.{greatest_picked}
use Rattle.sweeps.proofs.greatest.Goals as goal

pub returns : goal.returns
returns c =
    let most = c.unwrap_or.result in
    let least : EachIndex c.args.numbers.now (λ k. get_or c.args.numbers.now k 0 ≤ most) = search rules in
    let one : (most ≡ 0) ⊎ Contains c.args.numbers.now most = search rules in
    greatest_picked c.args.numbers.now most least one
