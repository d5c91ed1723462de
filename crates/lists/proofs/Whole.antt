-- The whole list check: past the tests of its shape it goes by what `note_lists` promises of the lists.
--     shape_passes                       the tests 1, 5, 6 pass, from the comparisons that the code makes
--     accepted_lists, refused_lists      what `check_lists` promises of lists that pass, and of lists that are refused
-- Assumes nothing.
use mathlib.Core.Path.{◌≡◌, sym, ap}
use mathlib.Core.Bool.{true, false, true≢false, false≢true}
use mathlib.Core.List.{List, ◌++◌}
use Prim.Native.Nat.{ℕ, ◌*◌, ◌≤◌}
use lib.ListN.{length, drop, replicate, length-replicate}
use borrow.Author.Tests.{le-ltb}
use Rattle.std.specs.Prelude.{Result, Ok, Err, is_err}
use Rattle.model.specs.Words.{over}
use Rattle.model.specs.Given.{Poses}
use Rattle.model.specs.Refusals.{accepted, wrong_size, short, no_lists, in_lists, check_shape, check_verdict}
use Rattle.model.specs.Answers.{Told, work_checked, work_after, checked, checked_work}
use Rattle.laws.specs.Verdicts.{numbered_lists, told_zero}
use Rattle.poses.specs.declared.refusals.Refusal.{Refusal}
use Rattle.poses.specs.Refusals.{refused_as}
use Rattle.lists.specs.Clauses.{ListsNoted, ListsChecked}

module _ (s : Poses) (work : List ℕ) where
  pub shape_passes : wrong_size s.m s.n ≡ false → s.m * s.n ≤ length s.items → s.m * s.n ≤ length s.scores
      → s.m * s.n ≤ length work → check_shape s work ≡ accepted
  unfolding check_shape no_lists short
  shape_passes sized a b h =
      rw (
        sized,
        le-ltb (length s.items) (s.m * s.n) a,
        le-ltb (length s.scores) (s.m * s.n) b,
        le-ltb (length work) (s.m * s.n) h,
      )

  module _ (shape : check_shape s work ≡ accepted) {after : List ℕ} where
    pub accepted_lists : (r : Result (Unit {0}) Refusal) → is_err r ≡ false → ListsNoted s work r after → ListsChecked s work r after
    unfolding checked check_verdict checked_work work_after work_checked
    accepted_lists (Ok x) none p =
        let all = told_zero (in_lists s) (numbered_lists s) (sym (ap (λ (t : Told). t.number) p.answers)) in
        record { answers = rw shape p.answers; leaves = rw (shape, all) (p.notes all) }
    accepted_lists (Err e) none p = absurd (true≢false none)

    pub refused_lists : (r : Result (Unit {0}) Refusal) → is_err r ≡ true → ListsNoted s work r after
        → (cleared : List ℕ) → cleared ≡ replicate (s.m * s.n) 0 ++ drop (s.m * s.n) after → ListsChecked s work r cleared
    unfolding checked check_verdict checked_work work_after work_checked over
    refused_lists (Ok x) some p cleared zeros = absurd (false≢true some)
    refused_lists (Err e) some p cleared zeros =
        let stops = refused_as e (in_lists s) p.answers in
        record { answers = rw shape p.answers; leaves = rw (shape, stops, length-replicate {A = ℕ} (s.m * s.n) 0, ← p.beyond) zeros }
