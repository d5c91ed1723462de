-- `sweeps::note_items`, the loop's invariant: the items passed are noted.
-- Assumes nothing.
use mathlib.Core.Path.{◌≡◌}
use lib.ListN.{length, get_or}
use Rattle.model.specs.Words.{row}
use Rattle.laws.specs.Marks.{noted}
use Rattle.sweeps.proofs.note_items.Given as goal

abbrev pub invariant-loop-q : goal.invariant-loop-q
invariant-loop-q l = l.places ≡ row (noted (λ p. get_or l.items p 0) l.q) (length l.initial.places)
