-- `bound_by` of a reading meets its contract. The loop's invariant: the accumulator is the joined products of the lists passed, and
-- is at most 65,535,000 for each of them.
-- Assumes nothing.
use Rattle.std.specs.Prelude.{◌≡◌, Bool, ℕ, ◌*◌, ◌≤◌, get_or}
use Rattle.model.specs.Given.{joined}
use Rattle.poses.specs.Rules.{rule_number}
use Rattle.meeting.specs.declared.Reading.{Reading}
use Rattle.meeting.specs.Clauses.{read_at, unread}
use Rattle.meeting.proofs.Reading.bound_by.Given as goal

abbrev pub product : Reading → Bool → ℕ → ℕ → ℕ → ℕ
product r high d depth i =
    read_at r.set.poses r.set.scores.now r.places.now d depth (unread high r.set.poses r.set.scores.now depth) i * get_or r.weights.now i 0

abbrev pub invariant-loop-i : goal.invariant-loop-i
invariant-loop-i l = (l.acc ≤ l.i * 65535000) × (l.acc ≡ joined (rule_number l.rule) (product l.self l.high l.d l.depth) l.i)
