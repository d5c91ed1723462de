-- `passing::note_until_rise` meets its contract: a list more is swept (`rows_go_on`), rises (`row_rises`), or was the last (`rows_end`).
-- Assumes nothing.
use mathlib.Core.Path.{◌≡◌, sym, ap, ◌∙◌}
use mathlib.Core.Bool.{true≢false, false≢true}
use Prim.Native.Nat.{◌+◌, ◌*◌, ◌≤◌}
use native.Mathlib.Omega.{arith}
use lib.ListN.{length, length-replicate}
use Rattle.laws.specs.Lists.{table_room}
use Rattle.poses.specs.Sets.{set_of}
use Rattle.passing.proofs.Rows.{own_length, rows_start, rows_go_on, rows_end, row_small, row_clear, row_rises}
use Rattle.passing.proofs.note_until_rise.Goals as goal

pub loop-i-init : goal.loop-i-init
loop-i-init c = rows_start (set_of c.args.set) c.requires.empty

pub returns-then-rises : goal.returns-then-rises
returns-then-rises c =
    let some = sym c.rises.ensures ∙ c.if-rises.true in
    let s = set_of c.args.set in
    record { rising = λ _. row_rises s c.requires c.loop-i.invariant (omega arith) some; swept = λ told. absurd (true≢false told) }

pub note_items-requires : goal.note_items-requires
note_items-requires c =
    let s = set_of c.args.set in
    let room = table_room c.loop-i.i s.m s.n (omega arith) in
    let row_in_items : c.loop-i.i * s.n + s.n ≤ length s.items = omega (arith, c.requires.within.items_long) in
    let zeros = row_clear s c.requires c.loop-i.invariant (omega arith) in
    let long = ap length zeros ∙ length-replicate s.n 0 in
    let short = own_length c.loop-i.i s.n s.items row_in_items in
    record {
      few = omega (arith, short, c.requires.within.n_most);
      placed = λ q l. rw long (row_small s c.requires c.loop-i.invariant (omega arith) q (rw short at l));
      empty = rw long zeros;
    }

pub loop-i-preserved : goal.loop-i-preserved
loop-i-preserved c =
    let s = set_of c.args.set in
    let room = table_room c.loop-i.i s.m s.n (omega arith) in
    let row_in_items : c.loop-i.i * s.n + s.n ≤ length s.items = omega (arith, c.requires.within.items_long) in
    let none_rises = sym c.rises.ensures ∙ c.if-rises.false in
    let zeros = row_clear s c.requires c.loop-i.invariant (omega arith) in
    let long = ap length zeros ∙ length-replicate s.n 0 in
    let short = own_length c.loop-i.i s.n s.items row_in_items in
    let notes = rw (short, long) at c.note_items.ensures in
    rows_go_on s c.requires c.loop-i.invariant (omega arith) c.note_items.new.places none_rises notes

pub returns : goal.returns
returns c =
    let whole : c.loop-i.i ≡ c.args.set.lists = omega (arith, c.loop-i.invariant.within) in
    record {
      rising = λ told. absurd (false≢true told);
      swept = λ _. rows_end (set_of c.args.set) (rw whole at c.loop-i.invariant);
    }
