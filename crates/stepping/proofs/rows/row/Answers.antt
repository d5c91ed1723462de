-- `stepping::rows::row` meets its contract: the item at position p of one list more is met.
-- Assumes nothing.
use mathlib.Core.Path.{◌≡◌, refl, sym, ap}
use mathlib.Core.List.{◌++◌, append-nil, append_assoc}
use Prim.Native.Nat.{ℕ}
use native.Mathlib.Numerals.{add-one}
use native.Mathlib.Omega.{arith}
use Rattle.std.proofs.Common.{rules}
use Rattle.model.specs.Given.{item}
use Rattle.model.specs.Accesses.{sorted, lookup, row_ta, rows_ta}
use Rattle.laws.specs.Looked.{looked_whole}
use Rattle.laws.specs.Rows.{row_looked, rows_looked}
use Rattle.poses.specs.Sets.{set_of}
use Rattle.stepping.specs.Steps.{goes_none, goes_on, goes_to, state_now, meeting_of, row_count}
use Rattle.stepping.proofs.rows.row.Goals as goal

pub loop-i-init : goal.loop-i-init
unfolding row_ta
loop-i-init c =
    let before = rows_ta (set_of c.args.accepted.reading.set) c.args.p in
    record { same = search rules; goes = goes_to (sym (append-nil before)) (goes_none before) }

pub meet-requires : goal.meet-requires
unfolding item
meet-requires c =
    let a = c.args.accepted in
    let v = a.readable.lists_valid in
    let i = c.loop-i.i in
    let small = v.is_item i c.args.p c.loop-i-test.true c.requires.1 in
    meeting_of a (state_now c.requires.0 c.loop-i.invariant.goes) c.requires.0.tally_long _ small
    (λ j hj. row_count (set_of a.reading.set) v c.args.p i j _ c.requires.1 c.loop-i.auto.i-end hj small)

pub loop-i-preserved : goal.loop-i-preserved
unfolding item row_ta
loop-i-preserved c =
    let a = c.args.accepted in
    let s = set_of a.reading.set in
    let v = a.readable.lists_valid in
    let i = c.loop-i.i in
    let p = c.args.p in
    let before = rows_ta s p ++ row_ta s p i in
    let whole = looked_whole s v (row_looked s p i c.requires.1 c.loop-i.auto.i-end (rows_looked s p (omega (arith, c.requires.1)))) in
    let more = c.meet.ensures.meets.looks_up s.items before sorted i p v a.readable.work_placed whole c.loop-i-test.true c.requires.1 refl in
    record {
      same = search (rules, c.loop-i.invariant.same, c.meet.ensures.same);
      goes = rw (add-one i) (goes_to (append_assoc (rows_ta s p) (row_ta s p i) (lookup s sorted i p)) (goes_on c.loop-i.invariant.goes more));
    }

pub returns-clause-goes : goal.returns-clause-goes
unfolding rows_ta
returns-clause-goes c =
    let s = set_of c.args.accepted.reading.set in
    let whole : c.loop-i.i ≡ s.m = omega (arith, c.loop-i.auto.i-end) in
    rw (add-one c.args.p) (goes_to (ap (λ (i : ℕ). rows_ta s c.args.p ++ row_ta s c.args.p i) whole) c.loop-i.invariant.goes)
