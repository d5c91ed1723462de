-- `lines::search_lines` meets its contract: one line more of a search that is accepted, or the line of the refusal alone.
-- Assumes nothing.
use Rattle.std.proofs.Common.{refl, ◌∙◌, arith, rules}
use Rattle.poses.specs.Refusals.{number_some}
use Rattle.lines.specs.Alike.{alike_itself, alike_kept}
use Rattle.lines.proofs.Turns.{so_far_none, so_far_next, so_far_refused, so_far_all, line_of_number}
use Rattle.lines.proofs.search_lines.Goals as goal

pub loop-number-init : goal.loop-number-init
loop-number-init c =
    (rw c.requires.0 (so_far_none _ _), alike_itself _, record { picks_same = refl; lows_same = refl; highs_same = refl; tally_same = refl; work_same = refl }, refl)

pub returns-in-Err-clause-lines : goal.returns-in-Err-clause-lines
returns-in-Err-clause-lines c =
    let inv = c.loop-number.invariant in
    so_far_refused inv.0 inv.1 (line_of_number c.from.ensures (omega (arith, c.loop-number-test.true)) c.in-Err.ensures.line) (number_some _)

pub loop-number-preserved : goal.loop-number-preserved
loop-number-preserved c =
    let inv = c.loop-number.invariant in
    let small = c.loop-number-test.true in
    let long = c.one_line.ensures.lengths in
    let same = c.one_line.ensures.same in (
      so_far_next inv.0 inv.1 (line_of_number c.from.ensures (omega (arith, small)) c.one_line.ensures.line) (rw c.in_default.is) (omega (arith, small)),
      alike_kept inv.1 long.picks_long long.lows_long long.highs_long long.tally_long long.work_long,
      record {
        picks_same = same.picks_same ∙ inv.2.picks_same;
        lows_same = same.lows_same ∙ inv.2.lows_same;
        highs_same = same.highs_same ∙ inv.2.highs_same;
        tally_same = same.tally_same ∙ inv.2.tally_same;
        work_same = same.work_same ∙ inv.2.work_same;
      },
      c.one_line.ensures.same_text ∙ inv.3,
    )

pub returns-clause-lines : goal.returns-clause-lines
returns-clause-lines c = so_far_all c.loop-number.invariant.0 (search rules)
