-- `lines::search_lines` meets its contract. The loop's invariant: the lines of the searches so far stand at the start of the
-- slice, none of them too long, and after the first no search is refused; the slices lent to a search keep their lengths, so what
-- it answers is what it would have answered at the start.
-- Assumes nothing.
use Rattle.std.specs.Prelude.{◌≡◌}
use Rattle.poses.specs.Sets.{lent_of, IsSameRoom}
use Rattle.lines.specs.Alike.{Alike}
use Rattle.lines.proofs.Turns.{SoFar}
use Rattle.lines.proofs.search_lines.Given as goal

abbrev pub invariant-loop-number : goal.invariant-loop-number
invariant-loop-number l =
    let lent = lent_of l.set l.query l.initial.room in
    SoFar l.number lent l.initial.text.out.now l.text.end l.text.out.now × Alike (lent_of l.set l.query l.room) lent
    × IsSameRoom l.initial.room l.room × (l.text.out.ghost_name ≡ l.initial.text.out.ghost_name)
