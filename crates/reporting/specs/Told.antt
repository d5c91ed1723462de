-- The numbers that C is told, in the order in which they stand in the array that it lends, and the records that the contracts cite.
--     check_numbers                       the three numbers of the list check's answer
--     query_numbers, lists_numbers         the five numbers of a query that is read; the three of lists that are read
--     source_number, part_numbers          which record the chosen weights are in; that, where they start, how many bytes they are
--     CheckTold, QueryTold, ListsTold    what the list check and the two reads promise
--     PartTold                           what the choice of the weights promises
-- Every function returns one of the array's numbers as well: the choice the bytes of the part, each other the refusal's number.
-- Assumes nothing.
use Rattle.std.specs.Prelude.{◌≡◌, List, [], ◌∷◌, ℕ}
use Rattle.model.specs.Given.{Poses}
use Rattle.model.specs.Answers.{Told as ToldValue, checked, checked_work}
use Rattle.model.specs.Records.{QueryRead as QueryValue, read_query, ListsRead as ListsValue, read_lists, items_after, scores_after, Record, the_query, the_lists, Part, chosen}

-- the list check: number, list, position
abbrev pub check_numbers : ToldValue → List ℕ
check_numbers t = t.number ∷ t.list ∷ t.position ∷ []

-- the read of a query: number, rule, k, c, and the bytes taken
abbrev pub query_numbers : QueryValue → List ℕ
query_numbers q = q.number ∷ q.rule ∷ q.k ∷ q.c ∷ q.bytes ∷ []

-- the read of lists: number, m, n
abbrev pub lists_numbers : ListsValue → List ℕ
lists_numbers t = t.number ∷ t.m ∷ t.n ∷ []

-- 0 for the query record, 1 for the list record
unfoldable pub source_number : Record → ℕ
source_number the_query = 0
source_number the_lists = 1

-- the chosen weights: the record that they are in, where they start in it, how many bytes they are
abbrev pub part_numbers : Part → List ℕ
part_numbers p = source_number p.source ∷ p.start ∷ p.size ∷ []

-- The list check of lists and a work slice
pub record CheckTold (s : Poses) (work : List ℕ) (number : ℕ) (told after : List ℕ) : Type 0 where
  pub number_is : number ≡ (checked s work).number
  pub told_is : told ≡ check_numbers (checked s work)
  pub leaves : after ≡ checked_work s work

-- The read of a query
pub record QueryTold (bytes : List ℕ) (number : ℕ) (told : List ℕ) : Type 0 where
  pub number_is : number ≡ (read_query bytes).number
  pub told_is : told ≡ query_numbers (read_query bytes)

-- The read of lists into two slices
pub record ListsTold (bytes items scores : List ℕ) (number : ℕ) (told items_left scores_left : List ℕ) : Type 0 where
  pub number_is : number ≡ (read_lists bytes items scores).number
  pub told_is : told ≡ lists_numbers (read_lists bytes items scores)
  pub leaves_items : items_left ≡ items_after bytes items scores
  pub leaves_scores : scores_left ≡ scores_after bytes items scores

-- The choice of the weights: the chosen part, by which record it is in, its start and its size
pub record PartTold (query lists : List ℕ) (size : ℕ) (told : List ℕ) : Type 0 where
  pub size_is : size ≡ (chosen query lists).size
  pub told_is : told ≡ part_numbers (chosen query lists)
