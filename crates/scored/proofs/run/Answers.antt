-- `scored::run` meets its contract: one row or round more is made (`row_made`), and its test ends the search or not.
-- Assumes nothing.
use mathlib.Core.Path.{◌≡◌, refl, sym, ◌∙◌}
use mathlib.Core.List.{◌++◌}
use Prim.Native.Nat.{ℕ, ◌*◌}
use lib.ListN.{length, drop, replicate, length-replicate}
use Rattle.std.proofs.Common.{rules}
use Rattle.model.specs.Words.{over}
use Rattle.laws.specs.Lists.{zeros_at}
use Rattle.scored.proofs.Between.{between_starts, stepping_between, advancing_then, row_made, limited_after, after_goes_on, run_ends}
use Rattle.scored.proofs.run.Goals as goal

pub loop-p-init : goal.loop-p-init
loop-p-init g c =
    let none = zeros_at 8 in
    record {
      same = search rules;
      between = between_starts _ c.args.accepted _ _ c.args.tally.now _ refl c.requires.tally_long c.clear.ensures c.clear.auto.tally none;
    }

pub step-found-requires : goal.step-found-requires
step-found-requires g c = stepping_between c.args.accepted c.loop-p.invariant.between

pub positions-requires : goal.positions-requires
positions-requires g c = advancing_then c.args.accepted c.loop-p.invariant.between c.step-found.ensures.steps

pub ends-requires : goal.ends-requires
ends-requires g c =
    let step = c.step-found.ensures in
    limited_after c.args.accepted
    (row_made c.args.accepted c.loop-p.invariant.between step.steps step.same.count_same c.positions.ensures)

pub returns-then-ends : goal.returns-then-ends
unfolding over
returns-then-ends g c =
    let a = c.args.accepted in
    let size = a.reading.set.lists * a.reading.set.poses in
    let step = c.step-found.ensures in
    let start = c.loop-p.invariant.same in
    let later = row_made a c.loop-p.invariant.between step.steps step.same.count_same c.positions.ensures in
    let test = sym (rw c.last_score-last.ensures at c.ends.ensures) ∙ c.if-ends.true in
    let cleared : c.clear.new.tally ≡ replicate size 0 ++ drop (length (replicate {A = ℕ} size 0)) c.args.tally.now =
    c.clear.ensures ∙ rw (length-replicate {A = ℕ} size 0) in
    let ran = rw (step.same.count_same ∙ start.count_same) at (run_ends a later c.args.tally.now test c.counts.ensures cleared) in
    search (rules, ran, start, step.same)

pub loop-p-preserved : goal.loop-p-preserved
loop-p-preserved g c =
    let a = c.args.accepted in
    let step = c.step-found.ensures in
    let start = c.loop-p.invariant.same in
    let later = row_made a c.loop-p.invariant.between step.steps step.same.count_same c.positions.ensures in
    let test = sym (rw c.last_score-last.ensures at c.ends.ensures) ∙ c.if-ends.false in
    record { same = search (rules, start, step.same); between = after_goes_on a later test }
