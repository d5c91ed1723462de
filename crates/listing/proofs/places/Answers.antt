-- `listing::places` meets its contract: nothing is written at first, and one place more in each turn.
-- Assumes nothing.
use Rattle.std.specs.Prelude.{refl}
use Rattle.std.proofs.Common.{◌∙◌, arith}
use Rattle.fields.specs.Appending.{appended_none, appended_then, appended_is}
use Rattle.listing.specs.Places.{places_none, places_next}
use Rattle.listing.proofs.places.Goals as goal

pub loop-i-init : goal.loop-i-init
loop-i-init c =
    record {
      same = refl;
      text =
          rw (places_none c.args.picks.now c.args.lows.now c.args.highs.now)
          (appended_none c.args.text.now.out.now c.args.text.now.end (omega (arith, c.requires.room)));
      short = omega arith;
    }

pub loop-i-preserved : goal.loop-i-preserved
loop-i-preserved c =
    record {
      same = c.place.ensures.same ∙ c.loop-i.invariant.same;
      text =
          appended_is (places_next c.args.picks.now c.args.lows.now c.args.highs.now c.loop-i.i)
          (appended_then c.loop-i.invariant.text c.place.ensures.text);
      short = omega arith;
    }
