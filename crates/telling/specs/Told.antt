-- The numbers of a search's answer in the order in which they stand in the array that C lends, and the records that the contracts cite.
--     search_numbers      the seven numbers of a search's answer
--     AnswerTold         an answer as told
--     SearchTold         what each of the four searches promises, at every input
-- Assumes nothing.
use Rattle.std.specs.Prelude.{◌≡◌, List, [], ◌∷◌, ℕ}
use Rattle.model.specs.Given.{Poses, Query}
use Rattle.model.specs.Searches.{Search}
use Rattle.model.specs.Refusals.{Lent}
use Rattle.model.specs.Answers.{Answer as AnswerValue, answer, slices}
use Rattle.answers.specs.declared.Answer.{Answer}

-- a search: number, list, position, rows, and the sorted, direct and random accesses
abbrev pub search_numbers : AnswerValue → List ℕ
search_numbers a =
    a.number ∷ a.list ∷ a.position ∷ a.rows ∷ a.sorted ∷ a.direct ∷ a.random ∷ []

-- An answer as told: its number is returned, and its seven numbers stand in the array
pub record AnswerTold (a : Answer) (number : ℕ) (told : List ℕ) : Type 0 where
  pub number_is : number ≡ a.number
  pub told_is : told ≡ a.number ∷ a.list ∷ a.position ∷ a.rows ∷ a.sorted.0 ∷ a.direct.0 ∷ a.random.0 ∷ []

-- The search r over what is lent, refused or not: what is returned, the array and the five slices are the model's
pub record SearchTold (r : Poses → Query → Search) (l : Lent) (number : ℕ) (told picks lows highs tally work : List ℕ) : Type 0 where
  pub number_is : number ≡ (answer r l).number
  pub told_is : told ≡ search_numbers (answer r l)
  pub picks_are : picks ≡ (slices r l).picks
  pub lows_are : lows ≡ (slices r l).lows
  pub highs_are : highs ≡ (slices r l).highs
  pub tally_is : tally ≡ (slices r l).tally
  pub work_is : work ≡ (slices r l).work
