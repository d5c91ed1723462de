-- The records that the contracts of `records` cite.
--     value_of_query, value_of_lists         an answer's numbers, as the model tells them
--     query_refusal, lists_refusal         the answer of a refused read
--     QueryIsRead                        what `read_query` promises: the answer
--     ListsAreRead                       what `read_lists` promises: the answer, and both slices as it leaves them
--     lent_of, start_of, WeightsChosen     what `chosen_weights` promises: what the part holds, and where it stands
-- Assumes nothing.
use Rattle.std.specs.Prelude.{◌≡◌, List, ℕ, ◌+◌, Result, Ok, Err}
use Rattle.std.specs.Borrow.{Bor}
use Rattle.model.specs.Answers.{told}
use Rattle.model.specs.Records.{query_head, lists_verdict, QueryRead as QueryValue, read_query, ListsRead as ListsValue, read_lists, items_after, scores_after, Part, Record, the_query, the_lists, chosen, part_of}
use Rattle.poses.specs.declared.refusals.Refusal.{Refusal}
use Rattle.poses.specs.Refusals.{told_of, value_of}
use Rattle.records.specs.declared.QueryRead.{QueryRead}
use Rattle.records.specs.declared.ListsRead.{ListsRead}

-- "The answer of a refused read, query or lists, is the number alone, with all else 0"
abbrev pub query_refusal : ℕ → QueryValue
query_refusal number = record { number = number; rule = 0; k = 0; c = 0; bytes = 0 }

abbrev pub lists_refusal : ℕ → ListsValue
lists_refusal number = record { number = number; m = 0; n = 0 }

-- what a read gives back, in the model's numbers
abbrev pub value_of_query : Result QueryRead Refusal → QueryValue
value_of_query (Ok r) = record { number = 0; rule = r.rule; k = r.k; c = r.c; bytes = r.bytes }
value_of_query (Err e) = query_refusal (told_of e).number

abbrev pub value_of_lists : Result ListsRead Refusal → ListsValue
value_of_lists (Ok r) = record { number = 0; m = r.m; n = r.n }
value_of_lists (Err e) = lists_refusal (told_of e).number

-- The read of a query, at every byte string: it is refused by the first test that refuses, and it answers what the model answers
pub record QueryIsRead (bytes : List ℕ) (r : Result QueryRead Refusal) : Type 0 where
  pub tells : value_of r ≡ told (query_head bytes)
  pub answers : value_of_query r ≡ read_query bytes

-- The read of lists, at every byte string and every two slices: it is refused by the first test that refuses, answers what the
-- model answers, and leaves both slices as the model says
pub record ListsAreRead (bytes items scores : List ℕ) (r : Result ListsRead Refusal) (items_left scores_left : List ℕ) : Type 0 where
  pub tells : value_of r ≡ told (lists_verdict bytes items scores)
  pub answers : value_of_lists r ≡ read_lists bytes items scores
  pub leaves_items : items_left ≡ items_after bytes items scores
  pub leaves_scores : scores_left ≡ scores_after bytes items scores

-- the lent slice that a part is of
unfoldable pub lent_of : Record → Bor (List ℕ) → Bor (List ℕ) → Bor (List ℕ)
lent_of the_query query lists = query
lent_of the_lists query lists = lists

-- where a part of it starts: the slice's own block of memory, and as many bytes further on as the part says
unfoldable pub start_of : Part → Bor (List ℕ) → Bor (List ℕ) → ℕ × ℕ
start_of part query lists =
    let from = lent_of part.source query lists in
    (from.ref_ptr.0, part.start + from.ref_ptr.1)

-- The weights chosen, at every two byte strings: they hold the bytes of the chosen part, and are "that part of the one
-- record or the other, uncopied": they stand where the part does
pub record WeightsChosen (query lists r : Bor (List ℕ)) : Type 0 where
  pub holds : r.now ≡ part_of (chosen query.now lists.now) query.now lists.now
  pub stands : r.ref_ptr ≡ start_of (chosen query.now lists.now) query lists
