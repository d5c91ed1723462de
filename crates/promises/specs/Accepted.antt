-- "Accepted" is neither empty nor narrower than the page: what is asked of a call is exactly that its number is 0.
--     valid_lists            valid lists pass every test of the list check
--     accepted_exactly       a call's number is 0 exactly where k, rule, weights, slices and lists are right
--     Worked, worked_accepted        A, B, C, D and E are accepted
-- Assumes nothing.
use Rattle.std.specs.Prelude.{◌≡◌, refl, Bool, true, false, ◌&&◌, List, ◌↔◌, ℕ, ◌-◌, ◌<◌, ltb, length}
use Rattle.std.proofs.Math.Path.{sym, ap}
use Rattle.std.proofs.Common.{◌∙◌, arith, eqb-true, le-ltb}
use Rattle.std.proofs.Math.Dec.{eqb}
use Rattle.std.proofs.lemmas.Bool.{lt-leb}
use Rattle.model.specs.Given.{Poses, Query, item, score, place}
use Rattle.model.specs.Searches.{Search}
use Rattle.model.specs.Refusals.{accepted, Lent, poses_of, not_item, stood_earlier, rises, standing, fault, in_list, in_lists, search_verdict}
use Rattle.laws.specs.Tests.{by_cases, some_none}
use Rattle.laws.specs.Verdicts.{first_refusal_all}
use Rattle.laws.specs.Accepted.{Valid}
use Rattle.laws.specs.Opened.{searches_opened}
use Rattle.laws.specs.Cases.{case_a, case_b, case_c, case_d, case_e, cases_opened}
use Rattle.answers.specs.declared.Answer.{Answer}
use Rattle.admission.specs.Clauses.{shape_is}
use Rattle.answering.specs.Answered.{Searched}
use Rattle.admission.specs.Shapes.{shape_passes, Accepts, accepts}
use Rattle.answering.specs.Promises.{accepted_is_zero}

and_no : (b : Bool) → (b && false) ≡ false
and_no true = refl
and_no false = refl

-- valid lists pass every test of the list check
module _ (s : Poses) (v : Valid s) where
  never_earlier : (i p : ℕ) → i < s.m → p < s.n → stood_earlier s i p ≡ false
  unfolding stood_earlier
  never_earlier i p hi hp =
      some_none (λ q. eqb (item s i q) (item s i p)) p
      (λ q h.
      by_cases (eqb (item s i q) (item s i p))
      (λ (y : eqb (item s i q) (item s i p) ≡ true).
      let same : q ≡ p =
      sym (v.place_of_item i q hi (omega arith)) ∙ ap (place s i) (eqb-true (item s i q) (item s i p) y) ∙ v.place_of_item i p hi hp in
      absurd (omega arith))
      (λ (z : eqb (item s i q) (item s i p) ≡ false). z))

  never_rises : (i p : ℕ) → i < s.m → p < s.n → rises s i p ≡ false
  unfolding rises
  never_rises i p hi hp = rw (le-ltb (score s i (p - 1)) (score s i p) (v.falls i (p - 1) p hi (omega arith) hp)) (and_no (ltb 0 p))

  pub valid_lists : in_lists s ≡ accepted
  unfolding in_lists in_list fault not_item standing
  valid_lists =
      first_refusal_all (in_list s) s.m
      (λ i hi. first_refusal_all (fault s i) s.n
      (λ p hp. rw (lt-leb s.n (item s i p) (v.is_item i p hi hp), never_earlier i p hi hp, never_rises i p hi hp)))

-- what is right is accepted
right_accepted : (l : Lent) → Accepts l → search_verdict l ≡ accepted
unfolding search_verdict
right_accepted l h =
    rw (
      shape_is l,
      shape_passes l.m l.n l.rule l.k l.weights (length l.items) (length l.scores) (length l.picks)
          (length l.lows) (length l.highs) (length l.tally) (length l.work) h.shape,
    )
    (valid_lists (poses_of l) h.lists_valid)

pub accepted_exactly : {r : Poses → Query → Search} {l : Lent} {a : Answer} {picks lows highs tally work : List ℕ}
    → Searched r l a picks lows highs tally work
    → (a.number ≡ 0) ↔ Accepts l
accepted_exactly {l = l} x =
    let both = accepted_is_zero x in
    (λ none. accepts l (both.0 none), λ h. both.1 (right_accepted l h))

-- the worked sets are accepted
pub record Worked : Type 0 where
  pub a : Accepts case_a
  pub b : Accepts case_b
  pub c : Accepts case_c
  pub d : Accepts case_d
  pub e : Accepts case_e

accepted_a : search_verdict case_a ≡ accepted
unfolding searches_opened cases_opened
accepted_a = refl

accepted_b : search_verdict case_b ≡ accepted
unfolding searches_opened cases_opened
accepted_b = refl

accepted_c : search_verdict case_c ≡ accepted
unfolding searches_opened cases_opened
accepted_c = refl

accepted_d : search_verdict case_d ≡ accepted
unfolding searches_opened cases_opened
accepted_d = refl

accepted_e : search_verdict case_e ≡ accepted
unfolding searches_opened cases_opened
accepted_e = refl

pub worked_accepted : Worked
worked_accepted =
    record {
      a = accepts case_a accepted_a;
      b = accepts case_b accepted_b;
      c = accepts case_c accepted_c;
      d = accepts case_d accepted_d;
      e = accepts case_e accepted_e;
    }
