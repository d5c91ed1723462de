-- `blocking::met_in_the_way` meets its contract: what is not from `at` on is in front of it.
-- Assumes nothing.
use Rattle.std.specs.Prelude.{◌≡◌, ◌-◌, length, take, drop}
use Rattle.std.proofs.Common.{arith, length-drop, take_all}
use Rattle.meeting.specs.Clauses.{view_of}
use Rattle.blocking.proofs.Parts.{found_front}
use Rattle.blocking.proofs.met_in_the_way.Goals as goal

pub returns : goal.returns
returns c =
    let at = c.args.at in
    let met = c.args.met.now in
    let behind : take (length met - at) (drop at met) ≡ drop at met = take_all _ _ (omega (arith, length-drop at met)) in
    found_front (view_of c.args.rows.reading) c.args.p c.args.bar at met (rw behind at c.in_default.ensures) _ c.blocker-2.ensures
