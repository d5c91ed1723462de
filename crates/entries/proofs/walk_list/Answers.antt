-- `entries::walk_list` meets its contract: a position more passes (`goes_on`), is refused (`unknown`, `twice`, `rises_here`), or was
-- the last (`passes`).
-- Assumes nothing.
use Rattle.entries.proofs.Walk.{starts, unknown, twice, rises_here, goes_on, passes}
use Rattle.entries.proofs.walk_list.Goals as goal

pub loop-p-init : goal.loop-p-init
loop-p-init c = starts c.requires.places_lent (c.fill.ensures.after (λ y e. e))

pub returns-then-n-item : goal.returns-then-n-item
returns-then-n-item c =
    let at = c.spot.ensures in
    unknown c.loop-p.invariant c.loop-p-test.true c.from-item.ensures c.if-n-item.true at.list at.position

pub returns-then-places-item-ne0 : goal.returns-then-places-item-ne0
returns-then-places-item-ne0 c =
    let at = c.spot-then-places-item-ne0.ensures in
    twice c.loop-p.invariant c.loop-p-test.true c.from-item.ensures c.if-n-item.false c.if-places-item-ne0.true at.list at.position

pub returns-then-before-score : goal.returns-then-before-score
returns-then-before-score c =
    let at = c.spot-then-before-score.ensures in
    rises_here c.loop-p.invariant c.loop-p-test.true c.from-item.ensures c.if-n-item.false c.if-places-item-ne0.false
    c.from-score.ensures c.from-score.type_inv c.if-before-score.true at.list at.position

pub loop-p-preserved : goal.loop-p-preserved
loop-p-preserved c =
    goes_on c.loop-p.invariant c.loop-p-test.true c.from-item.ensures c.if-n-item.false c.if-places-item-ne0.false
    c.from-score.ensures c.from-score.type_inv c.if-before-score.false

pub returns : goal.returns
returns c = passes c.loop-p.invariant c.loop-p-test.false
