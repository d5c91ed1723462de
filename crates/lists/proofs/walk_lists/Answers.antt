-- `lists::walk_lists` meets its contract: a list more has passed (`rows_go_on`), ends the walk (`rows_stop`), or was the last (`rows_done`).
-- Assumes nothing.
use Rattle.std.proofs.Common.{rules}
use mathlib.Core.Path.{◌≡◌}
use Prim.Native.Nat.{◌+◌, ◌*◌, ◌≤◌}
use native.Mathlib.Omega.{arith}
use lib.ListN.{length}
use borrow.Rule.Slice.PartMut.{mid_len}
use Rattle.laws.specs.Lists.{table_room}
use Rattle.poses.specs.Sets.{set_of}
use Rattle.lists.proofs.Rows.{rows_start, rows_go_on, rows_stop, rows_done, list_accepted}
use Rattle.lists.proofs.walk_lists.Goals as goal

pub loop-i-init : goal.loop-i-init
loop-i-init c = rows_start (set_of c.args.set) c.args.work.now

pub returns-in_err-walk_list : goal.returns-in_err-walk_list
returns-in_err-walk_list c =
    let s = set_of c.args.set in
    let room = table_room c.loop-i.i s.m s.n (omega arith) in
    let whole_in_work : s.m * s.n ≤ length c.loop-i.work = omega (arith, c.requires.work_long) in
    let from = c.loop-i.i * s.n in
    let row_in_work : from + s.n ≤ length c.loop-i.work = omega arith in
    let row_back : length c.walk_list.new.places ≡ s.n =
    omega (arith, c.walk_list.auto.places, mid_len from (from + s.n) c.loop-i.work row_in_work) in
    let stopped =
    rows_stop s c.args.work.now c.loop-i.invariant c.walk_list.new.places c.in_err-walk_list.field-0.0
    (omega arith) (c.in_err-walk_list.ensures.answers s.m) row_back whole_in_work in
    search rules

pub loop-i-preserved : goal.loop-i-preserved
loop-i-preserved c =
    let s = set_of c.args.set in
    let passes = list_accepted s c.args.work.now c.loop-i.i (c.in_ok-walk_list.ensures.answers s.m) in
    rows_go_on s c.args.work.now c.loop-i.invariant c.walk_list.new.places (omega arith) passes
    (c.in_ok-walk_list.ensures.notes s.m passes)

pub returns : goal.returns
returns c =
    let whole : c.loop-i.i ≡ c.args.set.lists = omega (arith, c.loop-i.invariant.within) in
    rows_done (set_of c.args.set) c.args.work.now (rw whole at c.loop-i.invariant)
