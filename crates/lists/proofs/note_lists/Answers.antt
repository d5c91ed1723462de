-- `lists::note_lists` meets its contract: the lists pass as a whole (`noted_whole`), or are walked.
-- Assumes nothing.
use mathlib.Core.Path.{◌≡◌}
use Prim.Native.Nat.{◌*◌}
use native.Mathlib.Omega.{arith}
use lib.ListN.{length}
use lib.Seq.{length-take-le}
use Rattle.poses.specs.Sets.{set_of}
use Rattle.lists.proofs.Swept.{noted_whole}
use Rattle.lists.proofs.note_lists.Goals as goal

pub returns-then-note_whole : goal.returns-then-note_whole
returns-then-note_whole c =
    let s = set_of c.args.set in
    let places-back : length c.note_whole.new.places ≡ s.m * s.n =
    omega (arith, c.note_whole.auto.places, length-take-le (s.m * s.n) c.args.work.now c.requires.work_long) in
    noted_whole s c.args.work.now c.note_whole.new.places places-back (rw c.if-note_whole.true at c.note_whole.ensures)
