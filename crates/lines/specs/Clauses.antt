-- The records that the contracts of `lines` cite.
--     line_or, one_line        a text, or a refusal's line; the line of one search, or of its refusal
--     lines_to                the lines of the first so many searches
--     LineMade               what one search with its line promises
--     Lines                  what the four in a row promise
-- Assumes nothing.
use Rattle.std.specs.Prelude.{◌≡◌, List, [], ◌++◌, ℕ, zero, suc, ◌+◌, ◌≤◌}
use Rattle.model.specs.Refusals.{Verdict, accepted, refused, Lent, search_verdict}
use Rattle.model.specs.Answers.{told}
use Rattle.model.specs.Program.{refused_line, search_line, printing}
use Rattle.running.specs.Clauses.{search_at}
use Rattle.fields.specs.Clauses.{Appended}
use Rattle.wording.specs.Clauses.{name_at, line_room}
use Rattle.std.specs.Prelude.{Result}
use Rattle.poses.specs.declared.refusals.Refusal.{Refusal}
use Rattle.poses.specs.Refusals.{value_of}

-- a text, or where there is a refusal its line
unfoldable pub line_or : Verdict → List ℕ → List ℕ
line_or accepted text = text
line_or (refused number i p) text = refused_line number i p

-- the line of the search of a number, or of its refusal
unfoldable pub one_line : ℕ → Lent → List ℕ
one_line which l = line_or (search_verdict l) (search_line (name_at which) (search_at which) l)

-- the lines of the first so many searches
unfoldable pub lines_to : ℕ → Lent → List ℕ
lines_to zero l = []
lines_to (suc which) l = lines_to which l ++ search_line (name_at which) (search_at which) l

-- The line of a search over what is lent stands in the slice from a place on, or that of its refusal, which goes with it
pub record LineMade (which : ℕ) (l : Lent) (before : List ℕ) (at : ℕ) (made : Result (Unit {0}) Refusal) (end : ℕ) (after : List ℕ) : Type 0 where
  pub number_is : (value_of made).number ≡ (told (search_verdict l)).number
  pub appended : Appended (one_line which l) before at after end
  pub short : end ≤ at + line_room

-- The text of the searches over what is lent, refused or not, stands at the start of the slice
abbrev pub Lines : Lent → List ℕ → ℕ → List ℕ → Type 0
Lines l before end after = Appended (printing (search_verdict l) l) before 0 after end
