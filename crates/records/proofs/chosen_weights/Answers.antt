-- `records::chosen_weights` meets its contract: either record is refused, or both pass and the part goes by the query's count.
-- Assumes nothing.
use Rattle.std.specs.Prelude.{◌+◌, ◌*◌}
use Rattle.std.proofs.Common.{◌≡◌, refl, arith, rules, sym, ◌∙◌}
use Rattle.model.specs.Refusals.{accepted}
use Rattle.model.specs.Records.{lists_head}
use Rattle.records.specs.Choice.{no_part, house_part, own_part, chosen_house, chosen_own}
use Rattle.records.specs.Clauses.{lent_of}
use Rattle.records.specs.Held.{lists_held}
use Rattle.records.proofs.Choosing.{part_chosen, none_of_refused_query, none_of_refused_lists}
use Rattle.records.proofs.chosen_weights.Goals as goal

pub returns-in_default : goal.returns-in_default
unfolding lent_of
returns-in_default c =
    let a = c.args in
    part_chosen a.query a.lists no_part 0 (none_of_refused_query a.query.now a.lists.now _ c.in_default.ensures.tells) refl

pub returns-in_default-lists_head : goal.returns-in_default-lists_head
unfolding lent_of
returns-in_default-lists_head c =
    let a = c.args in
    part_chosen a.query a.lists no_part 0
    (none_of_refused_lists a.query.now a.lists.now _ c.in-Ok.ensures.passes c.in_default-lists_head.ensures.tells) refl

pub lists_m-requires : goal.lists_m-requires
lists_m-requires c =
    let passes : lists_head c.args.lists.now ≡ accepted = search rules in
    omega (arith, (lists_held c.args.lists.now passes).whole)

pub returns-then-count-eq0 : goal.returns-then-count-eq0
unfolding lent_of
returns-then-count-eq0 c =
    let a = c.args in
    let passes : lists_head c.args.lists.now ≡ accepted = search rules in
    part_chosen a.query a.lists (house_part a.lists.now) (8 + 2 * c.lists_m.result)
    (chosen_house a.query.now a.lists.now c.in-Ok.ensures.passes passes
    (sym c.query_count-count.ensures.0 ∙ c.if-count-eq0.true))
    (omega (arith, c.lists_m.ensures.0))

pub returns : goal.returns
unfolding lent_of
returns c =
    let a = c.args in
    let passes : lists_head c.args.lists.now ≡ accepted = search rules in
    part_chosen a.query a.lists (own_part a.query.now) (9 + 2 * c.query_count-count.result)
    (chosen_own a.query.now a.lists.now c.in-Ok.ensures.passes passes
    (λ none. c.if-count-eq0.false (c.query_count-count.ensures.0 ∙ none)))
    (omega (arith, c.query_count-count.ensures.0))
