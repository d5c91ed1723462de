-- The loop of `halting::few_above`: the highs above the bar were counted so far.
-- Assumes nothing.
use Rattle.std.specs.Prelude.{◌≡◌, true, ltb}
use Rattle.laws.specs.Passing.{passing}
use Rattle.meeting.specs.Clauses.{bound_of, view_of}
use Rattle.halting.proofs.few_above.Given as goal

abbrev pub invariant-loop-d : goal.invariant-loop-d
invariant-loop-d l = l.count ≡ passing (λ d. ltb l.bar (bound_of (view_of l.rows.reading) true l.p d)) l.d
