-- `running::run` meets its contract: NRA stops at row n at the latest, and makes sorted accesses alone.
-- Assumes nothing.
use Rattle.std.proofs.Common.{◌≡◌, arith, rules}
use Rattle.poses.specs.Methods.{method_number}
use Rattle.poses.specs.Sets.{set_of}
use Rattle.meeting.specs.Clauses.{query_of}
use Rattle.demands.specs.Promised.{promised}
use Rattle.running.proofs.Runs.{bounded_runs}
use Rattle.running.proofs.run.Goals as goal

pub only_sorted-requires : goal.only_sorted-requires
only_sorted-requires c =
    let a = c.args.accepted in
    let valid = a.readable.lists_valid in
    let all = promised (set_of a.reading.set) valid (query_of a.reading) c.args.k c.requires.k_least c.requires.k_most in
    (valid.size.m_most, omega (arith, c.run_nra-rows.ensures.rows_are, all.nra.row_most, valid.size.n_most))

pub returns-in-Nra : goal.returns-in-Nra
returns-in-Nra c =
    let is_nra : method_number c.args.method ≡ 3 = search rules in
    rw is_nra
    (bounded_runs 3 _ _ _ _ _ _ _ _ _ _ _ _ (omega arith) c.args.accepted.readable.lists_valid c.requires.k_least c.requires.k_most
    c.run_nra-rows.ensures c.only_sorted.ensures)
