-- A ledger's `read_row` meets its contract: before the first list the marks are those of the row before, and after all lists those
-- of row p.
-- Assumes nothing.
use Rattle.std.specs.Prelude.{◌≡◌}
use Rattle.std.proofs.Common.{refl, arith}
use Rattle.leading.proofs.Rows.{begun_start, begun_whole}
use Rattle.leading.proofs.Ledger.read_row.Goals as goal

pub loop-i-init : goal.loop-i-init
loop-i-init c =
    let leads = c.requires.1 in (
      record { marks_same = refl; tops_same = refl; met_same = refl; marks_long = refl; tops_long = refl; met_long = refl },
      record {
        begun = begun_start c.args.rows.reading.set.items.now leads.marked;
        led = leads.led;
        gathered = leads.gathered;
      },
      omega arith,
    )

pub returns-clause-read : goal.returns-clause-read
returns-clause-read c =
    let part = c.loop-i.invariant.1 in
    let whole : c.loop-i.i ≡ c.args.rows.reading.set.lists = omega (arith, c.loop-i-test.false) in
    record {
      marked = begun_whole c.requires.0.rowed (rw whole at part.begun);
      led = part.led;
      gathered = part.gathered;
    }
