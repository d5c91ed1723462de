-- What the list check promises to whoever calls it, and nothing of its inside.
--     value_one_to_one       two answers that are told alike are one answer
--     check_settles          any two results that meet the contract coincide, the work slice included
--     accepted_is_ok         the answer is `Ok` exactly where the model accepts
--     accepted_is_zero       and its number 0 exactly there
--     Accepted               what is promised of accepted lists: the pose set is valid, the work slice holds the positions
--     accepted_promises      where the answer is `Ok`
--     checked_lists          past the tests of the shape: the answer and the work slice, by the verdict on the lists
-- `Valid` and `Placed` are of `laws`: each entry is an item; place and item undo each other; each item has a place; scores never
-- rise over any distance; what the work slice holds.
-- Assumes nothing.
use Rattle.std.specs.Prelude.{◌≡◌, List, ◌↔◌, ℕ, Result, Ok, Err, OnOk}
use Rattle.std.proofs.Common.{refl, sym, ap, ◌∙◌}
use Rattle.model.specs.Words.{over}
use Rattle.model.specs.Given.{Poses}
use Rattle.model.specs.Refusals.{Verdict, accepted, in_lists, check_shape, check_verdict}
use Rattle.model.specs.Answers.{Told, told, places, work_checked, work_after, checked, checked_work}
use Rattle.laws.specs.Verdicts.{then_first, then_second, numbered_check, told_zero}
use Rattle.laws.specs.Accepted.{Valid, valid, Placed, placed, work_long}
use Rattle.poses.specs.declared.refusals.Refusal.{Refusal}
use Rattle.poses.specs.Refusals.{value_of, told_once, number_some}
use Rattle.lists.specs.Clauses.{ListsChecked}

-- two answers that are told alike are one answer
pub value_one_to_one : (r t : Result (Unit {0}) Refusal) → value_of r ≡ value_of t → r ≡ t
value_one_to_one (Ok x) (Ok y) e = refl
value_one_to_one (Ok x) (Err d) e = absurd (number_some d (sym (ap (λ (t : Told). t.number) e)))
value_one_to_one (Err d) (Ok x) e = absurd (number_some d (ap (λ (t : Told). t.number) e))
value_one_to_one (Err d) (Err f) e = ap (λ (x : Refusal). Err x) (told_once d f e)

-- any two results that meet the contract coincide
pub check_settles : {s : Poses} {work a b : List ℕ} {r t : Result (Unit {0}) Refusal} → ListsChecked s work r a → ListsChecked s work t b
    → (r ≡ t) × (a ≡ b)
check_settles {s} {work} {a} {b} {r} {t} x y =
    (value_one_to_one r t (x.answers ∙ sym y.answers), x.leaves ∙ sym y.leaves)

-- the answer is `Ok` exactly where the model accepts
pub accepted_is_ok : {s : Poses} {work a : List ℕ} {r : Result (Unit {0}) Refusal} → ListsChecked s work r a
    → (r ≡ Ok tt) ↔ (check_verdict s work ≡ accepted)
unfolding checked
accepted_is_ok {s} {work} {r = r} x = (
  λ ok. told_zero (check_verdict s work) (numbered_check s work) (ap (λ (v : Told). v.number) (sym x.answers ∙ ap value_of ok)),
  λ e. value_one_to_one r (Ok tt) (x.answers ∙ ap told e),
)

-- and its number 0 exactly there
pub accepted_is_zero : {s : Poses} {work a : List ℕ} {r : Result (Unit {0}) Refusal} → ListsChecked s work r a
    → ((value_of r).number ≡ 0) ↔ (check_verdict s work ≡ accepted)
unfolding checked
accepted_is_zero {s} {work} x =
    let same = ap (λ (t : Told). t.number) x.answers in
    (λ none. told_zero (check_verdict s work) (numbered_check s work) (sym same ∙ none), λ e. same ∙ ap (λ (v : Verdict). (told v).number) e)

-- What is promised of accepted lists
pub record Accepted (s : Poses) (work : List ℕ) : Type 0 where
  pub lists_valid : Valid s
  pub work_placed : Placed s work

pub accepted_promises : {s : Poses} {lent work : List ℕ} {r : Result (Unit {0}) Refusal} → ListsChecked s lent r work
    → OnOk r (Accepted s work)
unfolding check_verdict checked_work work_after work_checked
accepted_promises {s} {lent} {r = Ok y} x =
    let e = (accepted_is_ok x).0 refl in
    let shape = then_first (check_shape s lent) (in_lists s) e in
    let all = then_second (check_shape s lent) (in_lists s) e in
    let after : _ ≡ over (places s) lent = x.leaves ∙ rw (shape, all) in
    record { lists_valid = valid s lent e; work_placed = rw after (placed s lent (work_long s lent e)) }
accepted_promises {r = Err e} x = tt

-- past the tests of the shape, the answer and the work slice go by the lists alone
pub checked_lists : {s : Poses} {lent work : List ℕ} {r : Result (Unit {0}) Refusal} → check_shape s lent ≡ accepted
    → ListsChecked s lent r work → (value_of r ≡ told (in_lists s)) × (work ≡ work_checked (in_lists s) s lent)
unfolding checked check_verdict checked_work work_after
checked_lists {s} {lent} shape x = (x.answers ∙ rw shape, x.leaves ∙ rw shape)
