-- A ledger's `read_entry` meets its contract: the row's item in list i has its mark after the row, the k greatest are raised by it,
-- and it is among the items met.
-- Assumes nothing.
use Rattle.std.proofs.Common.{arith}
use Rattle.leading.proofs.Entries.{entry_small, entry_met, entry_top, entry_room, entry_read}
use Rattle.leading.proofs.Ledger.read_entry.Goals as goal

pub mark-new-requires : goal.mark-new-requires
mark-new-requires c =
    let row = c.requires.0 in (
      omega (arith, row.row_least, row.row_most),
      omega (arith, row.row_most),
      entry_small row (omega (arith, c.requires.1)) c.from-d.ensures,
      entry_met row (omega (arith, c.requires.1)) c.from-d.ensures _ (omega (arith, row.row_most)),
    )

pub raise-requires : goal.raise-requires
raise-requires c =
    let row = c.requires.0 in
    let part = c.requires.2 in
    (row.k_least, part.led.tops_long, entry_top row part (entry_small row (omega (arith, c.requires.1)) c.from-d.ensures))

pub gather-self-requires : goal.gather-self-requires
gather-self-requires c =
    let row = c.requires.0 in
    entry_room row c.requires.2 (entry_small row (omega (arith, c.requires.1)) c.from-d.ensures)

pub returns-clause-read : goal.returns-clause-read
returns-clause-read c =
    entry_read c.requires.0 c.requires.2 c.requires.1 c.from-d.ensures c.mark-new.ensures c.raise.ensures c.gather-self.ensures
