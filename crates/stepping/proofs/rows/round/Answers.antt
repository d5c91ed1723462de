-- `stepping::rows::round` meets its contract: the turn at one list more is made, at its best position as it is then.
-- Assumes nothing.
use mathlib.Core.Path.{◌≡◌, ◌∙◌}
use Prim.Native.Nat.{ℕ, ◌+◌, ◌≤◌, ◌<◌}
use native.Mathlib.Numerals.{add-one}
use native.Mathlib.Omega.{arith}
use lib.Dec.{ltb}
use lib.ListN.{get_or, length}
use Rattle.std.proofs.Common.{rules}
use Rattle.model.specs.Given.{Poses, item}
use Rattle.model.specs.Accesses.{round, rounds}
use Rattle.laws.specs.Lookups.{once}
use Rattle.laws.specs.Tests.{by_cases}
use Rattle.laws.specs.Visits.{best_most}
use Rattle.poses.specs.Sets.{set_of}
use Rattle.stepping.specs.Steps.{state_now, meeting_of}
use Rattle.stepping.proofs.Turning.{part_none, part_more, part_whole, part_count}
use Rattle.stepping.specs.Best.{walked_best, walkable_of}
use Rattle.stepping.proofs.rows.round.Goals as goal

once_most : (b n : ℕ) → once (ltb b n) ≤ 1
once_most b n = by_cases (ltb b n) (λ y. rw y (omega arith)) (λ z. rw z (omega arith))

whole_round : (s : Poses) (x i : ℕ) → i ≡ s.m → round s (rounds s x) i ≡ rounds s (x + 1)
unfolding rounds
whole_round s x i e = rw (add-one x, e)

pub loop-i-init : goal.loop-i-init
loop-i-init c = record { same = search rules; few = omega arith; part = λ x standing reached. part_none reached }

pub walk_on-b-requires : goal.walk_on-b-requires
walk_on-b-requires c =
    let standing = c.requires.standing in
    let part = c.loop-i.invariant.part c.requires.done standing c.requires.reached in
    let i = c.loop-i.i in
    walkable_of (state_now standing part.goes) i c.loop-i-test.true (get_or c.loop-i.best i 0) standing.tally_long
    (part.reached i c.loop-i-test.true)

pub look-requires : goal.look-requires
look-requires c =
    let a = c.args.accepted in
    let s = set_of a.reading.set in
    let standing = c.requires.standing in
    let v = a.readable.lists_valid in
    let x = c.requires.done in
    let i = c.loop-i.i in
    let b = c.walk_on-b.result in
    let now = state_now standing (c.loop-i.invariant.part x standing c.requires.reached).goes in
    let at_best = c.walk_on-b.ensures ∙ walked_best now i c.loop-i-test.true in
    record {
      list_within = c.loop-i-test.true;
      at_most = omega (arith, at_best, best_most s (round s (rounds s x) i) i);
      items_long = v.items_long;
      meeting = λ hb.
          meeting_of a now standing.tally_long (item s i b) (v.is_item i b c.loop-i-test.true hb)
          (λ j hj. part_count s v x i b j c.loop-i-test.true at_best hb hj);
    }

pub loop-i-preserved : goal.loop-i-preserved
loop-i-preserved c =
    let a = c.args.accepted in
    let s = set_of a.reading.set in
    let i = c.loop-i.i in
    let b = c.walk_on-b.result in
    let told = c.from-found.ensures in
    let count : c.from-found.result ≡ once (ltb b s.n) = by_cases (ltb b s.n) (λ y. rw y (rw y at told)) (λ z. rw z (rw z at told)) in
    let v = a.readable.lists_valid in
    record {
      same = search (rules, c.loop-i.invariant.same, c.look.ensures.same);
      few = omega (arith, count, once_most b s.n, c.loop-i.invariant.few);
      part = λ x standing reached.
          let part = c.loop-i.invariant.part x standing reached in
          let at_best = c.walk_on-b.ensures ∙ walked_best (state_now standing part.goes) i c.loop-i-test.true in
          let turn =
          c.look.ensures.turns.turns (round s (rounds s x) i) v a.readable.work_placed (part_whole s v x i c.loop-i.auto.i-end) at_best in
          let inside : i < length c.loop-i.best = omega (arith, v.size.m_most) in
          rw count (part_more part b c.loop-i-test.true inside at_best turn);
    }

pub returns-clause-rounds : goal.returns-clause-rounds
returns-clause-rounds c =
    let s = set_of c.args.accepted.reading.set in
    let whole : c.loop-i.i ≡ s.m = omega (arith, c.loop-i.auto.i-end) in
    let part = c.loop-i.invariant.part in
    record {
      goes = λ x standing reached. rw (whole_round s x c.loop-i.i whole) at (part x standing reached).goes;
      reached = λ x standing reached. rw (whole_round s x c.loop-i.i whole) at (part x standing reached).reached;
      counted = λ x standing reached. rw (whole_round s x c.loop-i.i whole) at (part x standing reached).counted;
      few = omega (arith, c.loop-i.auto.i-end, c.loop-i.invariant.few);
    }
