-- `running::by_score` meets its contract: a run, with the highs taken from the lows.
-- Assumes nothing.
use Rattle.running.proofs.Runs.{scored_runs}
use Rattle.running.proofs.by_score.Goals as goal

pub returns : goal.returns
returns g c =
    scored_runs _ _ _ _ _ _ _ _ _ _ _ _ _ c.requires.by_score c.args.accepted.readable.lists_valid c.requires.room.k_least
    c.requires.room.k_most c.run-found.ensures c.repeat_lows.ensures
