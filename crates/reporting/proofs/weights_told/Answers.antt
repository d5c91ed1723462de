-- `reporting::weights_told` meets its contract: the part is empty, or the query has its own weights, or it has none.
-- Assumes nothing.
use Rattle.std.proofs.Common.{refl}
use Rattle.reporting.specs.Choosing.{none_told, house_told, own_told}
use Rattle.reporting.proofs.weights_told.Goals as goal

pub returns-then-size-eq0 : goal.returns-then-size-eq0
returns-then-size-eq0 c = none_told c.args.query.now c.args.lists.now c.chosen_weights-size.ensures.holds c.if-size-eq0.true

pub returns-in-Ok : goal.returns-in-Ok
returns-in-Ok c =
    own_told c.args.query.now c.args.lists.now c.chosen_weights-size.ensures.holds c.in-Ok.ensures c.if-size-eq0.false
    c.if-own-ne0.true

pub returns-in_default : goal.returns-in_default
returns-in_default c =
    house_told c.args.query.now c.args.lists.now c.chosen_weights-size.ensures.holds c.in-Ok.ensures c.if-size-eq0.false
    c.if-own-ne0.false

pub returns-in_default-2 : goal.returns-in_default-2
returns-in_default-2 c =
    house_told c.args.query.now c.args.lists.now c.chosen_weights-size.ensures.holds c.in_default.ensures c.if-size-eq0.false refl
