-- `blocking::obstacle` meets its contract: one item in the way keeps the test from holding, and where there is none the number of highs
-- above the bar tells, which is no more than k where no more lows reach the bar.
-- Assumes nothing.
use Rattle.std.specs.Prelude.{◌-◌, ◌≤◌, ◌<◌, length}
use Rattle.std.proofs.Common.{sym, ◌∙◌, arith}
use Rattle.meeting.specs.Clauses.{view_of}
use Rattle.halting.specs.Clauses.{legible, unmet_of}
use Rattle.halting.specs.Marks.{halts_few, halts_not, halts_unmet}
use Rattle.halting.specs.Gathering.{listed_count, listed_most}
use Rattle.blocking.proofs.Obstacles.{clear_few, clear_counted}
use Rattle.blocking.proofs.obstacle.Goals as goal
use Rattle.blocking.proofs.obstacle.Goals.{else-met-rows-via-then-met-rows+else-bar-threshold, else-met-rows-via-else-met-rows, then-reach-k-via-then-reach-k, then-reach-k-via-else-reach-k+then-few_above}

pub returns-then-top-eq0 : goal.returns-then-top-eq0
returns-then-top-eq0 c =
    let w = legible c.args.rows.sound c.requires.0 c.requires.1 in
    record {
      small = c.requires.6;
      within = c.requires.7;
      goes_on = halts_few w c.requires.2 c.args.k c.requires.4 (c.requires.5.few c.if-top-eq0.true);
    }

pub returns-then-bar-threshold : goal.returns-then-bar-threshold
returns-then-bar-threshold c =
    let w = legible c.args.rows.sound c.requires.0 c.requires.1 in
    let barred = c.requires.5.barred (omega (arith, c.if-top-eq0.false)) in
    record {
      small = c.requires.6;
      within = c.requires.7;
      goes_on = halts_unmet w c.requires.2 c.args.k _ c.requires.4 barred
          (omega (arith, c.if-bar-threshold.true, c.threshold.ensures)) (omega (arith, c.if-met-rows.true, listed_count c.requires.3));
    }

pub returns-in-Some : goal.returns-in-Some
returns-in-Some c =
    let w = legible c.args.rows.sound c.requires.0 c.requires.1 in
    let barred = c.requires.5.barred (omega (arith, c.if-top-eq0.false)) in
    let found = c.in-Some.ensures in
    record {
      small = omega (arith, found.0, listed_most c.requires.3);
      within = omega (arith, found.0);
      goes_on = halts_not w c.requires.2 c.args.k _ c.requires.4 barred _ (c.requires.3.items_small _ found.0) found.1;
    }

pub returns-then-reach-k : goal.returns-then-reach-k
returns-then-reach-k c =
    let v = view_of c.args.rows.reading in
    let w = legible c.args.rows.sound c.requires.0 c.requires.1 in
    let barred = c.requires.5.barred (omega (arith, c.if-top-eq0.false)) in
    let unmet : length c.args.met.now < v.n → unmet_of v c.args.p ≤ c.args.top - 1 =
    elim c.else-met-rows.branch [
      | else-met-rows-via-then-met-rows+else-bar-threshold w ↦ λ _. omega (arith, w.if-bar-threshold.false, w.threshold.ensures)
      | else-met-rows-via-else-met-rows w ↦ λ h. absurd (omega (arith, h, w.if-met-rows.false))
    ] in
    elim c.then-reach-k.branch [
      | then-reach-k-via-then-reach-k b ↦
          clear_few w c.requires.2 c.requires.3 c.requires.4 barred c.in_default.ensures unmet (omega (arith, c.reach.ensures, b.if-reach-k.true))
      | then-reach-k-via-else-reach-k+then-few_above b ↦
          clear_counted w c.requires.2 c.requires.3 c.requires.4 barred c.in_default.ensures unmet
          ∙ sym b.few_above.ensures ∙ b.if-few_above.true
    ]

pub returns : goal.returns
returns c =
    let v = view_of c.args.rows.reading in
    let w = legible c.args.rows.sound c.requires.0 c.requires.1 in
    let barred = c.requires.5.barred (omega (arith, c.if-top-eq0.false)) in
    let unmet : length c.args.met.now < v.n → unmet_of v c.args.p ≤ c.args.top - 1 =
    elim c.else-met-rows.branch [
      | else-met-rows-via-then-met-rows+else-bar-threshold w ↦ λ _. omega (arith, w.if-bar-threshold.false, w.threshold.ensures)
      | else-met-rows-via-else-met-rows w ↦ λ h. absurd (omega (arith, h, w.if-met-rows.false))
    ] in
    record {
      small = c.requires.6;
      within = c.requires.7;
      goes_on = clear_counted w c.requires.2 c.requires.3 c.requires.4 barred c.in_default.ensures unmet
          ∙ sym c.few_above.ensures ∙ c.if-few_above.false;
    }
