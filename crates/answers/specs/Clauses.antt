-- An answer in numbers.
--     all_told                the accesses of an answer, of whatever kind
--     RefusedBy, Tells        an answer from a refusal's three numbers, and from what a search has done
--     answer_of               the answer of what a search gives back
--     answer_once             two results of one answer are one
-- Assumes nothing.
use Rattle.std.specs.Prelude.{◌≡◌, ℕ, ◌+◌, Result, Ok, Err}
use Rattle.std.proofs.Common.{ap, sym}
use Rattle.model.specs.Answers.{Told}
use Rattle.poses.specs.declared.refusals.Refusal.{Refusal}
use Rattle.poses.specs.Refusals.{told_of, told_once, number_some}
use Rattle.meeting.specs.declared.Found.{Found}
use Rattle.answers.specs.declared.Answer.{Answer}

-- the accesses of an answer, of whatever kind
abbrev pub all_told : Answer → ℕ
all_told a = a.sorted.0 + a.direct.0 + a.random.0

-- a refusal's number, list and position; "All other numbers in it are 0"
pub record RefusedBy (number list position : ℕ) (a : Answer) : Type 0 where
  pub number_is : a.number ≡ number
  pub list_is : a.list ≡ list
  pub position_is : a.position ≡ position
  pub rows_are : a.rows ≡ 0
  pub sorted_are : a.sorted.0 ≡ 0
  pub direct_are : a.direct.0 ≡ 0
  pub random_are : a.random.0 ≡ 0

-- the number is 0, and rows and accesses are those that were made
pub record Tells (d : Found) (a : Answer) : Type 0 where
  pub number_is : a.number ≡ 0
  pub list_is : a.list ≡ 0
  pub position_is : a.position ≡ 0
  pub rows_are : a.rows ≡ d.rows
  pub sorted_are : a.sorted.0 ≡ d.sorted.0
  pub direct_are : a.direct.0 ≡ d.direct.0
  pub random_are : a.random.0 ≡ d.random.0

-- found: the number is 0, and rows and accesses are those that were made. Refused: its number, list and position, and "All other
-- numbers in it are 0"
abbrev pub answer_of : Result Found Refusal → Answer
answer_of (Ok f) =
    record { number = 0; list = 0; position = 0; rows = f.rows; sorted = f.sorted; direct = f.direct; random = f.random }
answer_of (Err e) =
    record {
      number = (told_of e).number;
      list = (told_of e).list;
      position = (told_of e).position;
      rows = 0;
      sorted = record { 0 = 0 };
      direct = record { 0 = 0 };
      random = record { 0 = 0 };
    }

found_in : Answer → Found
found_in a = record { rows = a.rows; sorted = a.sorted; direct = a.direct; random = a.random }

told_in : Answer → Told
told_in a = record { number = a.number; list = a.list; position = a.position }

-- two results of one answer are one
pub answer_once : (x y : Result Found Refusal) → answer_of x ≡ answer_of y → x ≡ y
unfolding found_in told_in
answer_once (Ok f) (Ok g) same = ap (λ (a : Answer). Ok (found_in a)) same
answer_once (Ok f) (Err e) same = absurd (number_some e (sym (ap (λ (a : Answer). a.number) same)))
answer_once (Err d) (Ok g) same = absurd (number_some d (ap (λ (a : Answer). a.number) same))
answer_once (Err d) (Err e) same = ap (λ (x : Refusal). Err x) (told_once d e (ap told_in same))
