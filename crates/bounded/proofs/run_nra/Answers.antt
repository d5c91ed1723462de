-- `bounded::run_nra` meets its contract: the row that is found is the row of the definition (`rows_are`), and the shortlist and the
-- tally are those of that row. Until the shortlist is written, the k greatest marks stand in the first part of the highs (`tops_gone`).
-- Assumes nothing.
use Rattle.std.proofs.Common.{sym, arith, rules, length-append, length-take-le}
use Rattle.halting.specs.Gathering.{gathered_start}
use Rattle.raising.specs.Floor.{led_start, marked_start}
use Rattle.bounded.proofs.Lent.{cleared}
use Rattle.bounded.proofs.Reading.{sound, sought, met_room, rank_asks, finishes}
use Rattle.bounded.proofs.run_nra.Goals as goal

pub stopping_row-row-requires : goal.stopping_row-row-requires
stopping_row-row-requires c =
    let a = c.args.accepted in
    let reads = sound a.reading a.readable in (
      sought a.reading a.readable c.args.k c.requires.k_least c.requires.k_most,
      record {
        marked = marked_start reads;
        led = rw (cleared c.args.k c.args.highs.now c.requires.highs_long (c.fill.ensures.after (λ y same. same)))
            (led_start a.reading.set.poses c.args.k);
        gathered = gathered_start a.reading.set.poses reads.n_most;
      },
    )

pub slice_bounds-met-end : goal.slice_bounds-met-end
slice_bounds-met-end c =
    let a = c.args.accepted in
    let leads = c.stopping_row-row.ensures.stops.leads in
    met_room a.reading a.readable leads (search rules)

pub slice_bounds-rank-end-2 : goal.slice_bounds-rank-end-2
slice_bounds-rank-end-2 c =
    let a = c.args.accepted in
    let leads = c.stopping_row-row.ensures.stops.leads in
    sym (length-take-le _ _ (met_room a.reading a.readable leads (search rules)))

pub rank-requires : goal.rank-requires
rank-requires c =
    let a = c.args.accepted in
    let room = c.requires in
    let stopped = c.stopping_row-row.ensures.stops in
    rank_asks a.reading a.readable stopped.leads (search rules) (search rules) room.k_least room.k_most stopped.halted
    (record {
      k_least = room.k_least;
      picks_long = room.picks_long;
      lows_long = room.lows_long;
      highs_long = rw length-append (omega (arith, c.fill.auto.self, length-take-le c.args.k c.args.highs.now room.highs_long));
    })

pub returns : goal.returns
returns c =
    let a = c.args.accepted in
    let room = c.requires in
    let stopped = c.stopping_row-row.ensures.stops in
    finishes a.reading a.readable room stopped.halted stopped.leads _
    (omega (arith, c.fill.auto.self, length-take-le c.args.k c.args.highs.now room.highs_long)) c.rank.ensures c.fill_tally.ensures
