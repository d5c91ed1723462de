-- The records that the contracts of `places` cite, and what a search into columns owes.
--     row_of                  a place of the model as a row
--     lent_rows               everything that a search is lent, the shortlist as rows
--     SearchedRows           what a search into rows promises, at every input
--     Columned               what columns of a search owe before they are written into rows, whatever rows are lent
-- Assumes nothing.
use Rattle.std.specs.Prelude.{◌≡◌, List, map, ℕ, ◌≤◌, length}
use Rattle.model.specs.Words.{row}
use Rattle.model.specs.Given.{Poses, Query}
use Rattle.model.specs.Searches.{Search}
use Rattle.model.specs.Refusals.{Lent}
use Rattle.model.specs.Answers as model
use Rattle.model.specs.Answers.{answer, slices}
use Rattle.admission.specs.Clauses.{lent_with}
use Rattle.running.specs.Clauses.{search_at}
use Rattle.answers.specs.declared.Answer.{Answer}
use Rattle.placing.specs.declared.Place.{Place}
use Rattle.placing.specs.Rows.{place_at, onto}

-- a place of the model as a row
abbrev pub row_of : model.Place → Place
row_of x = record { item = x.item; low = x.low; high = x.high }

-- everything that a search is lent, where the shortlist is lent as rows: three slices with as many places
abbrev pub lent_rows : ℕ → ℕ → ℕ → ℕ → List ℕ → List ℕ → List ℕ → List Place → List ℕ → List ℕ → Lent
lent_rows m n rule k weights items scores rows tally work =
    lent_with m n rule k weights items scores (map (λ (x : Place). x.item) rows) (map (λ (x : Place). x.low) rows)
    (map (λ (x : Place). x.high) rows) tally work

-- The search r over what is lent, refused or not: the answer's seven numbers, the tally and the work slice are the model's, and
-- the rows are its shortlist written over the rows as lent
pub record SearchedRows (r : Poses → Query → Search) (l : Lent) (a : Answer) (lent rows : List Place) (tally work : List ℕ) : Type 0 where
  pub number_is : a.number ≡ (answer r l).number
  pub list_is : a.list ≡ (answer r l).list
  pub position_is : a.position ≡ (answer r l).position
  pub rows_are : a.rows ≡ (answer r l).rows
  pub sorted_are : a.sorted.0 ≡ (answer r l).sorted
  pub direct_are : a.direct.0 ≡ (answer r l).direct
  pub random_are : a.random.0 ≡ (answer r l).random
  pub rows_hold : rows ≡ onto (map row_of (answer r l).shortlist) lent
  pub tally_is : tally ≡ (slices r l).tally
  pub work_is : work ≡ (slices r l).work

-- The search of a number with `room` rows lent, before they are written: so many rows there are, and whatever they hold, the
-- first `count` places of the columns written over them are what the search owes
pub record Columned (which m n rule k room : ℕ) (weights items scores tally₀ work₀ : List ℕ) (a : Answer) (count : ℕ) (picks lows highs tally work : List ℕ)
    : Type 0 where
  pub count_most : count ≤ 1024
  pub count_room : count ≤ room
  pub owed : (lent : List Place) → length lent ≡ room
      → SearchedRows (search_at which) (lent_rows m n rule k weights items scores lent tally₀ work₀) a lent
      (onto (row (place_at picks lows highs) count) lent) tally work
