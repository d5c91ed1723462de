-- `ending::stopping_row` meets its contract: row p is read over what is kept after row p - 1, and the test is asked over what is kept then.
-- Assumes nothing.
use Rattle.std.specs.Prelude.{◌≡◌, ◌≤◌, length, take}
use Rattle.std.proofs.Common.{arith, length-take-le}
use Rattle.halting.specs.Gathering.{listed_most, listed_front}
use Rattle.blocking.specs.Clauses.{kth_of}
use Rattle.ending.proofs.stopping_row.Goals as goal

pub read_row-requires : goal.read_row-requires
read_row-requires c =
    let asked = c.requires.0 in
    let least : 1 ≤ c.loop-p.p = omega arith in
    let most : c.loop-p.p ≤ c.args.rows.reading.set.poses = omega (arith, c.loop-p-test.true) in (
      record { row_least = least; row_most = most; rowed = asked.rowed _ least most; k_least = asked.k_least },
      c.loop-p.invariant.1.leads,
    )

pub listed-requires : goal.listed-requires
listed-requires c =
    let met = c.read_row.ensures.read.gathered in
    omega (arith, listed_most met.listed, met.met_long)

pub obstacle-requires : goal.obstacle-requires
obstacle-requires c =
    let asked = c.requires.0 in
    let known = c.loop-p.invariant.1 in
    let now = c.read_row.ensures.read in
    let after = c.read_row.new.self in
    let within : after.count ≤ length after.met.now = omega (arith, listed_most now.gathered.listed, now.gathered.met_long) in
    let size : length (take after.count after.met.now) ≡ after.count = length-take-le after.count after.met.now within in (
      omega arith,
      omega (arith, c.loop-p-test.true),
      rw c.marked.ensures now.marked,
      rw (c.marked.ensures, c.listed.ensures, size) (listed_front now.gathered.listed),
      asked.k_least,
      rw c.marked.ensures (kth_of now.led asked.k_least),
      known.at_small,
      rw (c.listed.ensures, size) (omega (arith, known.at_within, c.read_row.ensures.grows)),
    )
