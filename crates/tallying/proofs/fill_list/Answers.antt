-- `tallying::fill_list` meets its contract: ones over the first p entries, and zeros over the others, are the row of the
-- definition (`ones_then_zeros`).
-- Assumes nothing.
use Rattle.std.proofs.Common.{rules}
use mathlib.Core.Path.{◌≡◌}
use Prim.Native.Nat.{◌-◌}
use lib.ListN.{length, replicate}
use Rattle.tallying.proofs.Filling.{ones_then_zeros}
use Rattle.tallying.proofs.fill_list.Goals as goal

pub returns : goal.returns
returns c =
    let ones : c.fill.new.self ≡ replicate c.args.p 1 = search rules in
    let zeros : c.fill-2.new.self ≡ replicate (length c.args.row.now - c.args.p) 0 = search rules in
    rw (ones, zeros) (ones_then_zeros c.args.p (length c.args.row.now) c.requires)
