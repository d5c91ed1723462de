-- What `admit` promises, in its two ways: refused by a search's own tests, or answered by the list check.
-- Assumes nothing.
use mathlib.Core.Path.{◌≡◌, ◌∙◌}
use mathlib.Core.List.{List}
use Prim.Native.Nat.{ℕ}
use lib.ListN.{length}
use Rattle.model.specs.Refusals.{Verdict, accepted, poses_of, search_shape, search_verdict}
use Rattle.model.specs.Answers.{told, work_after}
use Rattle.std.specs.Prelude.{Result, Ok, Err, OnOk}
use Rattle.poses.specs.declared.refusals.Refusal.{Refusal}
use Rattle.poses.specs.Refusals.{told_of, refused_as}
use Rattle.entries.specs.Clauses.{poses}
use Rattle.lists.specs.Clauses.{ListsChecked}
use Rattle.lists.specs.Promises.{accepted_promises, checked_lists}
use Rattle.admission.specs.Clauses.{lent_with, shape_of, shape_is, Admitted}
use Rattle.admission.specs.Shapes.{shape_told, check_shape_accepted}

-- what holds in any case holds of an `Ok`
on_ok : {T E P : Type 0} (r : Result T E) → P → OnOk r P
on_ok (Ok x) p = p
on_ok (Err e) p = tt

module _ (m n rule k : ℕ) (weights items scores : List ℕ) (picks lows highs tally : ℕ) (work : List ℕ) where
  abbrev shape : Verdict
  shape = shape_of m n rule k weights (length items) (length scores) picks lows highs tally (length work)

  -- the shape of whatever slices of these lengths are lent
  shape_of_lent : (a b c t : List ℕ) → length a ≡ picks → length b ≡ lows → length c ≡ highs → length t ≡ tally
      → search_shape (lent_with m n rule k weights items scores a b c t work) ≡ shape
  shape_of_lent a b c t ea eb ec et = shape_is (lent_with m n rule k weights items scores a b c t work) ∙ rw (ea, eb, ec, et)

  pub admitted_refused : (e : Refusal) → told_of e ≡ told shape
      → Admitted m n rule k weights items scores picks lows highs tally work (Err e) work
  unfolding search_verdict work_after
  admitted_refused e says =
      let refuses = refused_as e shape says in
      record {
        answers = λ a b c t ea eb ec et. rw (shape_of_lent a b c t ea eb ec et, refuses);
        leaves = λ a b c t ea eb ec et. rw (shape_of_lent a b c t ea eb ec et, refuses);
        passes = tt;
        shaped = tt;
      }

  pub admitted_checked : {r : Result (Unit {0}) Refusal} {after : List ℕ} → shape ≡ accepted → ListsChecked (poses m n items scores) work r after
      → Admitted m n rule k weights items scores picks lows highs tally work r after
  unfolding search_verdict work_after poses_of
  admitted_checked {r} all lists =
      let passed = shape_told m n rule k weights (length items) (length scores) picks lows highs tally (length work) all in
      let both = checked_lists (check_shape_accepted m n rule k weights items scores work picks lows highs tally passed) lists in
      record {
        answers = λ a b c t ea eb ec et. both.0 ∙ rw (shape_of_lent a b c t ea eb ec et, all);
        leaves = λ a b c t ea eb ec et. both.1 ∙ rw (shape_of_lent a b c t ea eb ec et, all);
        passes = accepted_promises lists;
        shaped = on_ok r all;
      }
