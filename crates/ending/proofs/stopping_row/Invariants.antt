-- The loop of `ending::stopping_row`: the marks and the items met are those after the rows read, which are those before row p, and the
-- test has held after none of them (`Asking`).
-- Assumes nothing.
use mathlib.Core.Path.{◌≡◌}
use mathlib.Core.Bool.{false}
use mathlib.Core.List.{List}
use Prim.Native.Nat.{ℕ, ◌-◌, ◌≤◌, ◌<◌}
use Rattle.meeting.specs.Clauses.{View, view_of}
use Rattle.halting.specs.Clauses.{halts_of}
use Rattle.leading.specs.Clauses.{Leading, IsSameLedger}
use Rattle.ending.proofs.stopping_row.Given as goal

-- Once p rows are read: the marks, the items met, the one of them to be asked first, and that the test has not held
pub record Asking (v : View) (k count at p : ℕ) (marks tops met : List ℕ) : Type 0 where
  pub row_most : p ≤ v.n
  pub at_small : at < v.n
  pub at_within : at ≤ count
  pub leads : Leading v p k marks tops met count
  pub not_yet : (x : ℕ) → 1 ≤ x → x ≤ p → halts_of v k x ≡ false

abbrev pub invariant-loop-p : goal.invariant-loop-p
invariant-loop-p l =
    IsSameLedger l.fn.ledger l.ledger
    × Asking (view_of l.rows.reading) l.k l.ledger.count l.at (l.p - 1) l.ledger.marks.now l.ledger.tops.now l.ledger.met.now
