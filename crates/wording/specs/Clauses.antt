-- The records that the contracts of `wording` cite.
--     name_at                 the name of a search by its number, which is that of `text`
--     line_room               the bytes that a line of a search takes at most
--     answer_text             the line that an answer with its places makes: a search's, or a refusal's
--     AnswerRoom, AnswerWritten      what the writing of an answer's line asks and promises
-- Assumes nothing.
use Rattle.std.specs.Prelude.{◌≡◌, cond, List, ℕ, ◌+◌, ◌*◌, ◌≤◌, eqb, length}
use Rattle.model.specs.Answers.{Place}
use Rattle.model.specs.Program.{line, refused_line}
use Rattle.answers.specs.declared.Answer.{Answer}
use Rattle.fields.specs.Clauses.{Appended}
unfoldable pub use Rattle.text.specs.Names.{name_at}

-- the bytes that a line of a search takes at most: four for its name, 45 for its counts, 28 for each of 1,024 places
abbrev pub line_room : ℕ
line_room = 49 + 28 * 1024

-- the line that an answer makes: a search's with its places, or a refusal's
unfoldable pub answer_text : ℕ → Answer → List Place → List ℕ
answer_text which a places =
    cond (eqb a.number 0)
    (line (name_at which) a.rows a.sorted.0 a.direct.0 a.random.0 places)
    (refused_line a.number a.list a.position)

-- An answer's line has room from a place on; where it is a search's, its k places stand in the three slices
pub record AnswerRoom (a : Answer) (k : ℕ) (picks lows highs out : List ℕ) (at : ℕ) : Type 0 where
  pub few : a.number ≡ 0 → k ≤ 1024
  pub picks_long : a.number ≡ 0 → k ≤ length picks
  pub lows_long : a.number ≡ 0 → k ≤ length lows
  pub highs_long : a.number ≡ 0 → k ≤ length highs
  pub room : at + line_room ≤ length out

-- An answer's line stands in the slice from a place on, and is not too long
pub record AnswerWritten (which : ℕ) (a : Answer) (places : List Place) (before : List ℕ) (at : ℕ) (after : List ℕ) (end : ℕ)
    : Type 0 where
  pub appended : Appended (answer_text which a places) before at after end
  pub short : end ≤ at + line_room
