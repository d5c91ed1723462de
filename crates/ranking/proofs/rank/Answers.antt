-- `ranking::rank` meets its contract: an entry's item goes into its place, and at the loop's end the first k of the items that reach the
-- bar are the first k of all met items (`listed_all`).
-- Assumes nothing.
use Rattle.std.specs.Prelude.{◌≡◌, ◌-◌, length}
use Rattle.std.proofs.Common.{refl, arith}
use Rattle.meeting.specs.Clauses.{view_of}
use Rattle.halting.specs.Clauses.{legible}
use Rattle.ranking.proofs.Items.{passed_none, passed_most, listed_all}
use Rattle.ranking.proofs.rank.Goals as goal

pub loop-item-init : goal.loop-item-init
loop-item-init c =
    passed_none (view_of c.args.rows.reading) c.args.k c.args.p (c.args.top - 1) c.args.met.now c.args.picks.now c.args.lows.now c.args.highs.now

pub consider-filled-requires : goal.consider-filled-requires
consider-filled-requires c =
    let room = c.requires.6 in (
      c.requires.0,
      c.requires.1,
      c.requires.2,
      c.requires.5.items_small _ c.loop-item-test.true,
      c.requires.4,
      record {
        room = record {
          k_least = room.k_least;
          picks_long = omega (arith, room.picks_long);
          lows_long = omega (arith, room.lows_long);
          highs_long = omega (arith, room.highs_long);
        };
        filled_most = passed_most (view_of c.args.rows.reading) c.args.k c.args.p (c.args.top - 1) c.args.met.now c.loop-item.invariant;
      },
    )

pub loop-item-preserved : goal.loop-item-preserved
loop-item-preserved c =
    c.consider-filled.ensures.considers c.args.met.now c.loop-item.item-index c.args.picks.now c.args.lows.now c.args.highs.now refl
    (c.requires.5.once_each _ c.loop-item-test.true) c.loop-item.invariant

pub returns : goal.returns
returns c =
    let w = legible c.args.rows.sound c.requires.0 c.requires.1 in
    let whole : c.loop-item.item-index ≡ length c.args.met.now = omega (arith, c.loop-item-test.false) in
    listed_all w c.requires.2 c.requires.3 c.requires.5 (rw whole at c.loop-item.invariant)
