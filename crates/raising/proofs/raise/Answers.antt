-- `raising::raise` meets its contract: a mark above the least is slid in, and the entry of the old mark or the least goes.
-- Assumes nothing.
use Rattle.std.specs.Prelude.{◌≤◌, leb}
use Rattle.std.proofs.Common.{arith, leb-true, leb-false}
use Rattle.laws.specs.Tests.{by_cases}
use Rattle.raising.proofs.Raising.{raised_slid}
use Rattle.raising.proofs.raise.Goals as goal

pub returns : goal.returns
returns c =
    let one_before : 1 ≤ c.seat-behind.result =
    let r = c.seat-behind.result in
    by_cases (leb 1 r)
    (λ y. leb-true 1 r y)
    (λ z.
    let none = leb-false 1 r z in
    absurd (omega (arith, c.seat-behind.ensures.rest_less 0 (omega arith) (omega (arith, c.requires.0)), c.requires.2))) in
    rw c.slide_scores.ensures
    (raised_slid c.requires.0 c.if-new-tops.false one_before c.seat-behind.ensures c.seat-at.ensures)
