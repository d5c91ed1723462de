-- `sweeps::note_items` meets its contract: an item more is noted at its place (`noted_store`).
-- Assumes nothing.
use mathlib.Core.Path.{sym, ap, ◌∙◌}
use Prim.Native.Nat.{ℕ}
use native.Mathlib.Numerals.{add-one}
use lib.ListN.{length, get_or}
use Rattle.model.specs.Words.{row}
use Rattle.laws.specs.Lists.{row_zeros}
use Rattle.laws.specs.Marks.{noted, noted_store}
use Rattle.sweeps.proofs.note_items.Goals as goal

pub loop-q-init : goal.loop-q-init
unfolding noted
loop-q-init c = c.requires.empty ∙ sym (row_zeros (length c.args.places.now))

pub loop-q-preserved : goal.loop-q-preserved
loop-q-preserved c =
    let f : ℕ → ℕ = λ p. get_or c.args.items.now p 0 in
    let n = length c.args.places.now in
    let q = c.loop-q.q in
    rw (c.from.ensures, c.loop-q.invariant)
    (noted_store f n q (c.requires.placed q c.loop-q-test.true) ∙ ap (λ (p : ℕ). row (noted f p) n) (sym (add-one q)))
