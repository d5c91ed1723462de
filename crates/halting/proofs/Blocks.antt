-- Whether an item stands in the way of stopping, by its mark and its high.
--     low_over       its low reaches the bar: it does not
--     low_under      its low does not, or it is not met: where its high is above the bar
-- Assumes nothing.
use Rattle.std.specs.Prelude.{◌≡◌, true, false, not, ℕ, ◌≤◌, ◌<◌, leb, ltb}
use Rattle.std.proofs.Common.{sym, ◌∙◌, le-leb}
use Rattle.std.proofs.lemmas.Bool.{lt-leb}
use Rattle.std.proofs.Math.Bool.{and-true, and-false}
use Rattle.meeting.specs.Clauses.{View, bound_of}
use Rattle.halting.specs.Clauses.{Sound, legible, mark_of, passes_of}
use Rattle.halting.specs.Marks.{blocks_not}

module _ {v : View} {p : ℕ} (s : Sound v) (least : 1 ≤ p) (most : p ≤ v.n) (bar d : ℕ) where
  pub low_over : bar < mark_of v p d → leb (mark_of v p d) bar ≡ not (passes_of v p bar d)
  low_over over =
      let under : leb (mark_of v p d) bar ≡ false = lt-leb (mark_of v p d) bar over in
      rw under (sym (rw under (and-false (ltb bar (bound_of v true p d)))) ∙ blocks_not (legible s least most) bar d)

  pub low_under : mark_of v p d ≤ bar → ltb bar (bound_of v true p d) ≡ not (passes_of v p bar d)
  low_under under =
      sym (rw (le-leb (mark_of v p d) bar under) (and-true (ltb bar (bound_of v true p d))))
      ∙ blocks_not (legible s least most) bar d
