-- The records that the contracts of `previewing` cite.
--     Roomy, Reading         room for the greatest set and the longest text; with it, a query that was read
--     Previewed              what `preview` promises
-- Assumes nothing.
use Rattle.std.specs.Prelude.{◌≡◌, List, ℕ, ◌*◌, ◌≤◌, length, Ok}
use Rattle.model.specs.Words.{over}
use Rattle.model.specs.Program.{printed}
use Rattle.records.specs.declared.QueryRead.{QueryRead}
use Rattle.records.specs.Clauses.{QueryIsRead}
use Rattle.wording.specs.Clauses.{line_room}

-- Room for the greatest set and the longest text: two slices for lists, five that a search writes, and one for the text
pub record Roomy (items scores picks lows highs tally work out : List ℕ) : Type 0 where
  pub items_are : length items ≡ 8192
  pub scores_are : length scores ≡ 8192
  pub picks_are : length picks ≡ 1024
  pub lows_are : length lows ≡ 1024
  pub highs_are : length highs ≡ 1024
  pub tally_is : length tally ≡ 8192
  pub work_is : length work ≡ 8192
  pub out_long : 4 * line_room ≤ length out

-- A query that was read at the start of the bytes, and room for what is left to do
pub record Reading (bytes : List ℕ) (query : QueryRead) (items scores picks lows highs tally work out : List ℕ) : Type 0 where
  pub is_read : QueryIsRead bytes (Ok query)
  pub room : Roomy items scores picks lows highs tally work out

-- The text printed for the bytes stands at the start of the slice, its length is the answer, and places beyond stay as lent.
-- The other seven slices are scratch room: nothing is said of what is left in them
pub record Previewed (bytes before : List ℕ) (end : ℕ) (after : List ℕ) : Type 0 where
  pub length_is : end ≡ length (printed bytes)
  pub text_is : after ≡ over (printed bytes) before
