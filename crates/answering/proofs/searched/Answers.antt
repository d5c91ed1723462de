-- `answering::searched` meets its contract: refused by the tests, or run.
-- Assumes nothing.
use Rattle.std.proofs.Common.{refl, ap, ◌∙◌, rules}
use Rattle.model.specs.Refusals.{poses_of}
use Rattle.poses.specs.Methods.{method_number}
use Rattle.poses.specs.Rules.{rule_number, rule_kept}
use Rattle.running.specs.Clauses.{search_at}
use Rattle.admission.specs.Clauses.{lent_with}
use Rattle.admission.specs.Passing.{passed}
use Rattle.answering.proofs.Answering.{refused_answer, readable, search_answer}
use Rattle.answering.proofs.searched.Goals as goal

pub returns-in_err-admit : goal.returns-in_err-admit
unfolding poses_of
returns-in_err-admit c =
    let a = c.args in
    let tests = c.in_err-admit.ensures in
    let refused = refused_answer (search_at (method_number a.method)) (lent_with a.set.lists a.set.poses a.query.rule a.query.count a.query.weights.now
    a.set.items.now a.set.scores.now a.picks.now a.lows.now a.highs.now a.tally.now a.work.now) c.in_err-admit.field-0.0 _
    (tests.answers a.picks.now a.lows.now a.highs.now a.tally.now refl refl refl refl)
    (tests.leaves a.picks.now a.lows.now a.highs.now a.tally.now refl refl refl refl) in
    search rules

pub decode-weights-requires : goal.decode-weights-requires
decode-weights-requires c =
    let through = passed c.in_ok-admit.ensures in
    (through.lists_valid.size.m_most, through.weights_length)

pub invariant_of-accepted : goal.invariant_of-accepted
invariant_of-accepted c =
    record {
      readable = readable c.decode-weights.result (passed c.in_ok-admit.ensures) c.decode-weights.ensures c.scores_fit.ensures;
    }

pub run-requires : goal.run-requires
run-requires c =
    let through = passed c.in_ok-admit.ensures in
    record {
      k_least = through.k_least;
      k_most = through.k_most;
      picks_long = through.picks_long;
      lows_long = through.lows_long;
      highs_long = through.highs_long;
      tally_long = through.tally_long;
    }

pub returns : goal.returns
unfolding poses_of
returns c =
    let a = c.args in
    let tests = c.in_ok-admit.ensures in
    let rule_is = ap rule_number c.from.ensures ∙ rule_kept a.query.rule (passed tests).rule_small in
    search_answer (method_number a.method) (lent_with a.set.lists a.set.poses a.query.rule a.query.count a.query.weights.now
    a.set.items.now a.set.scores.now a.picks.now a.lows.now a.highs.now a.tally.now a.work.now) (rule_number c.from.result)
    c.decode-weights.result c.run.result _ _ _ _ _
    (tests.answers a.picks.now a.lows.now a.highs.now a.tally.now refl refl refl refl) rule_is
    c.decode-weights.ensures c.run.ensures
    (tests.leaves a.picks.now a.lows.now a.highs.now a.tally.now refl refl refl refl)
