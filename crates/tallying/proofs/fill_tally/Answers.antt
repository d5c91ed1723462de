-- `tallying::fill_tally` meets its contract: a list more is written (`table_more`).
-- Assumes nothing.
use mathlib.Core.Path.{◌≡◌, refl, ap, ◌∙◌}
use Prim.Native.Nat.{ℕ, ◌+◌, ◌*◌, ◌≤◌}
use native.Mathlib.Numerals.{add-one}
use native.Mathlib.Omega.{arith}
use lib.Dec.{ltb}
use lib.ListN.{length}
use borrow.Rule.Slice.PartMut.{mid_len}
use Rattle.model.specs.Words.{row, table, over}
use Rattle.laws.specs.Lists.{table_room}
use Rattle.laws.specs.Lookups.{once}
use Rattle.tallying.proofs.Filling.{table_more}
use Rattle.tallying.proofs.fill_tally.Goals as goal

pub loop-i-init : goal.loop-i-init
unfolding over table
loop-i-init c = refl

pub loop-i-preserved : goal.loop-i-preserved
loop-i-preserved c =
    let i = c.loop-i.i in
    let room = table_room i c.args.m c.args.n (omega arith) in
    let here : i * c.args.n + c.args.n ≤ length c.loop-i.tally = omega arith in
    let f : ℕ → ℕ → ℕ = λ i q. once (ltb q c.args.p) in
    let size = mid_len (i * c.args.n) (i * c.args.n + c.args.n) c.loop-i.tally here in
    let written : c.fill_list.new.row ≡ row (f i) c.args.n = c.fill_list.ensures ∙ ap (row (f i)) (omega (arith, size)) in
    rw (written, c.loop-i.invariant, add-one i) (table_more f c.args.n i c.args.tally.now)
