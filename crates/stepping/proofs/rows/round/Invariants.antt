-- `stepping::rows::round` meets its contract. The loop's invariant: after however many rounds the slices stood at entry, the turns at
-- the first i lists are made (`RoundPart`).
-- Assumes nothing.
use Prim.Native.Nat.{ℕ, ◌≤◌}
use Rattle.model.specs.Accesses.{rounds}
use Rattle.poses.specs.Sets.{set_of}
use Rattle.noting.specs.Shortlists.{IsSameShortlist}
use Rattle.stepping.specs.State.{Standing, VisitedUpTo}
use Rattle.stepping.proofs.Turning.{RoundPart}
use Rattle.stepping.proofs.rows.round.Given as goal

abbrev pub invariant-loop-i : goal.invariant-loop-i
invariant-loop-i l =
    let s = set_of l.reading.set in
    record {
      same : IsSameShortlist l.initial.shortlist l.shortlist;
      few : l.found ≤ l.i;
      part : (x : ℕ) → Standing l.reading (rounds s x) l.initial.shortlist l.initial.tally → VisitedUpTo s (rounds s x) l.initial.best
          → RoundPart l.reading x l.i l.initial.shortlist l.initial.tally l.shortlist l.tally l.best l.found;
    }
