-- `threshold` of a reading meets its contract. The loop's invariant: the accumulator is the joined products of the lists passed,
-- and is at most 65,535,000 for each of them.
-- Assumes nothing.
use Rattle.std.specs.Prelude.{◌≡◌, List, ℕ, ◌+◌, ◌-◌, ◌*◌, ◌≤◌, get_or}
use Rattle.model.specs.Given.{joined}
use Rattle.poses.specs.Rules.{rule_number}
use Rattle.meeting.specs.declared.Reading.{Reading}
use Rattle.meeting.proofs.Reading.threshold.Given as goal

abbrev pub product_at : Reading → List ℕ → ℕ → ℕ
product_at r at i = get_or r.set.scores.now (i * r.set.poses + (get_or at i 0 - 1)) 0 * get_or r.weights.now i 0

abbrev pub invariant-loop-i : goal.invariant-loop-i
invariant-loop-i l = (l.acc ≤ l.i * 65535000) × (l.acc ≡ joined (rule_number l.self.rule) (product_at l.self l.at) l.i)
