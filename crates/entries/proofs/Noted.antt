-- One list whose items are noted: what its walk promises, from its verdict.
--     list_refused       what is promised of a list that is refused
--     list_passed        and of one that passes, by its notes
-- Assumes nothing.
use mathlib.Core.Path.{◌≡◌, sym, ap, ◌∙◌}
use mathlib.Core.List.{List}
use Prim.Native.Nat.{ℕ, ◌+◌}
use Rattle.model.specs.Words.{row}
use Rattle.model.specs.Given.{item, score, place}
use Rattle.model.specs.Refusals.{Verdict, accepted, refused, not_item, stood_earlier, rises, fault, in_list}
use Rattle.model.specs.Answers.{told}
use Rattle.laws.specs.Lists.{row_same}
use Rattle.laws.specs.Verdicts.{accepted≢refused}
use Rattle.laws.specs.Marks.{noted}
use Rattle.laws.specs.Accepted.{noted_place}
use Rattle.std.specs.Prelude.{Result}
use Rattle.poses.specs.declared.refusals.Refusal.{Refusal}
use Rattle.poses.specs.Refusals.{value_of}
use Rattle.entries.specs.Clauses.{poses, ListNoted}

-- How many lists there are does not matter to one of them
one_list : (m n : ℕ) (items scores : List ℕ) (i : ℕ) {v : Verdict} → in_list (poses 0 n items scores) i ≡ v
    → in_list (poses m n items scores) i ≡ v
unfolding in_list fault not_item stood_earlier rises item score
one_list m n items scores i e = e

pub list_refused : {i n x j q : ℕ} {items scores after : List ℕ} {r : Result (Unit {0}) Refusal} → value_of r ≡ told (refused x j q)
    → in_list (poses 0 n items scores) i ≡ refused x j q → ListNoted i n items scores r after
list_refused {i} {n} {x} {j} {q} {items} {scores} says e =
    record {
      answers = λ m. says ∙ ap told (sym (one_list m n items scores i e));
      notes = λ m a. absurd (accepted≢refused (sym a ∙ one_list m n items scores i e));
    }

pub list_passed : {i n : ℕ} {items scores after : List ℕ} {r : Result (Unit {0}) Refusal} → value_of r ≡ told accepted
    → in_list (poses 0 n items scores) i ≡ accepted → after ≡ row (noted (item (poses 0 n items scores) i) n) n
    → ListNoted i n items scores r after
unfolding place item
list_passed {i} {n} {items} {scores} says passes e =
    let s = poses 0 n items scores in
    let all = e ∙ row_same (noted (item s i) n) (λ d. place s i d + 1) n (noted_place s i passes) in
    record { answers = λ m. says ∙ ap told (sym (one_list m n items scores i passes)); notes = λ m _. all }
