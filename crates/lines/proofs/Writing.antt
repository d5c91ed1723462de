-- The line of a search.
--     answer_room        what a search leaves has room for the places of its shortlist
--     line_made          a search with its line
-- Assumes nothing.
use mathlib.Core.Path.{◌≡◌, refl, ◌∙◌}
use mathlib.Core.List.{List}
use Prim.Native.Nat.{ℕ, ◌+◌, ◌≤◌}
use native.Mathlib.Omega.{arith}
use lib.ListN.{length}
use Rattle.model.specs.Given.{Poses, Query}
use Rattle.model.specs.Searches.{Search}
use Rattle.model.specs.Refusals.{Lent, poses_of, search_verdict}
use Rattle.model.specs.Answers.{told, answer, answering}
use Rattle.laws.specs.Verdicts.{by_verdict}
use Rattle.answers.specs.declared.Answer.{Answer}
use Rattle.answering.specs.Answered.{Searched}
use Rattle.answering.specs.Promises.{accepted_call}
use Rattle.fields.specs.Appending.{appended_is}
use Rattle.listing.specs.Clauses.{places_at}
use Rattle.std.specs.Prelude.{Result, Ok, Err}
use Rattle.poses.specs.declared.refusals.Refusal.{Refusal}
use Rattle.poses.specs.Refusals.{value_of}
use Rattle.meeting.specs.declared.Found.{Found}
use Rattle.answers.specs.Clauses.{answer_of}
use Rattle.running.specs.Clauses.{search_at}
use Rattle.wording.specs.Clauses.{line_room, AnswerRoom, AnswerWritten}
use Rattle.lines.specs.Clauses.{LineMade}
use Rattle.lines.specs.Lines.{answer_text_is_line}

module _ {r : Poses → Query → Search} {l : Lent} {a : Answer} {picks lows highs tally work : List ℕ}
    (x : Searched r l a picks lows highs tally work) where
  -- an answer's number is that of the verdict
  number_told : a.number ≡ (told (search_verdict l)).number
  unfolding answer answering
  number_told = by_verdict (search_verdict l) (λ e. x.number_is ∙ rw e) (λ y i p e. x.number_is ∙ rw e)

  pub answer_room : {out : List ℕ} {at : ℕ}
      → length picks ≡ length l.picks → length lows ≡ length l.lows → length highs ≡ length l.highs
      → at + line_room ≤ length out → AnswerRoom a l.k picks lows highs out at
  unfolding poses_of
  answer_room p q s room =
      record {
        few = λ none. let h = accepted_call x none in omega (arith, h.k_most, h.lists_valid.size.n_most);
        picks_long = λ none. omega (arith, (accepted_call x none).shape.picks_long);
        lows_long = λ none. omega (arith, (accepted_call x none).shape.lows_long);
        highs_long = λ none. omega (arith, (accepted_call x none).shape.highs_long);
        room = room;
      }

-- the number of what a call gives back is its answer's
number_given : (r : Result Found Refusal) → (value_of r).number ≡ (answer_of r).number
number_given (Ok f) = refl
number_given (Err e) = refl

pub line_made : (which : ℕ) {l : Lent} (r : Result Found Refusal) {made : Result (Unit {0}) Refusal} {picks lows highs tally work before after : List ℕ}
    {at end : ℕ}
    → Searched (search_at which) l (answer_of r) picks lows highs tally work → (value_of made).number ≡ (value_of r).number
    → AnswerWritten which (answer_of r) (places_at picks lows highs l.k) before at after end → LineMade which l before at made end after
line_made which r x number w =
    record {
      number_is = number ∙ number_given r ∙ number_told x;
      appended = appended_is (answer_text_is_line which x) w.appended;
      short = w.short;
    }
