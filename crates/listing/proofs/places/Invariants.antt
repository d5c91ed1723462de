-- `listing::places` meets its contract. The loop's invariant: the text of the first i places is written, of at most 28 bytes each.
-- Assumes nothing.
use Rattle.std.specs.Prelude.{◌≡◌, ◌+◌, ◌*◌, ◌≤◌}
use Rattle.model.specs.Program.{places_text}
use Rattle.fields.specs.Clauses.{Appended}
use Rattle.listing.specs.Clauses.{places_at}
use Rattle.listing.proofs.places.Given as goal

abbrev pub invariant-loop-i : goal.invariant-loop-i
invariant-loop-i l =
    record {
      same : l.text.out.ghost_name ≡ l.initial.text.out.ghost_name;
      text : Appended (places_text (places_at l.picks l.lows l.highs l.i)) l.initial.text.out.now l.initial.text.end l.text.out.now l.text.end;
      short : l.text.end ≤ l.initial.text.end + 28 * l.i;
    }
