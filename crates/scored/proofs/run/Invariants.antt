-- `scored::run` meets its contract. The loop's invariant: p rows or rounds are made and none of them ends the search (`Between`).
-- Assumes nothing.
use Rattle.noting.specs.Shortlists.{IsSameShortlist}
use Rattle.scored.proofs.Between.{Between}
use Rattle.scored.proofs.run.Given as goal

abbrev pub invariant-loop-p : goal.invariant-loop-p
invariant-loop-p g l =
    record {
      same : IsSameShortlist l.initial.shortlist l.shortlist;
      between : Between g.M.Judged.number l.reading l.initial.shortlist.picks.now l.initial.shortlist.lows.now l.initial.tally l.shortlist l.tally l.best
          l.found l.p;
    }
