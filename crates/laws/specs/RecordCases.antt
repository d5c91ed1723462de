-- The two records and the chosen weights on small inputs, computed: case B's input, each number by itself, two faults
-- together, the three kinds of count. The expected values were worked out by hand from docs/SPECIFICATION.md.
--     query_of_b, lists_of_b             case B's input, byte by byte
--     QueryCase, queries_read        a query record, and the answer that its read must give
--     ListsCase, lists_read          a list record with two slices, the answer, and both slices afterwards
--     ChoiceCase, weights_chosen     two records, the part chosen, and its bytes
-- Slices are lent two places longer than asked and full of nines, so that what stays as lent shows.
-- Assumes nothing.
use Rattle.std.specs.Prelude.{◌≡◌, refl, List, [], ◌∷◌, ◌++◌, map, ℕ, replicate, take}
use Rattle.model.specs.Words.{row, over}
use Rattle.model.specs.Refusals.{pair, wrong_size, short}
use Rattle.model.specs.Answers.{written}
use Rattle.model.specs.Records.{quad, query_rule, query_k, query_count, query_head, QueryRead, query_answer, read_query, lists_m, lists_n, entry_item, entry_score, lists_head, lists_verdict, ListsRead, lists_answer, read_lists, items_after, scores_after, Record, the_query, the_lists, Part, chosen_part, choosing, chosen, record_of, part_of}

-- one name that opens every definition of the records
unfoldable pub records_opened : Unit {0}
unfolding row over pair wrong_size short written quad query_rule query_k query_count query_head query_answer read_query lists_m lists_n entry_item entry_score lists_head lists_verdict lists_answer read_lists items_after scores_after chosen_part choosing chosen record_of part_of
records_opened = tt

-- ---- case B's input
-- 00000005 01 00 0004 00
unfoldable pub query_of_b : List ℕ
query_of_b = 0 ∷ 0 ∷ 0 ∷ 5 ∷ 1 ∷ 0 ∷ 0 ∷ 4 ∷ 0 ∷ []

-- 00000046 01 03 0005 0001 0001 0001, and then the entries, a list to a line
unfoldable pub lists_of_b : List ℕ
lists_of_b =
    (0 ∷ 0 ∷ 0 ∷ 70 ∷ 1 ∷ 3 ∷ 0 ∷ 5 ∷ 0 ∷ 1 ∷ 0 ∷ 1 ∷ 0 ∷ 1 ∷ [])
    ++ (0 ∷ 0 ∷ 0 ∷ 30 ∷ 0 ∷ 1 ∷ 0 ∷ 28 ∷ 0 ∷ 2 ∷ 0 ∷ 27 ∷ 0 ∷ 3 ∷ 0 ∷ 10 ∷ 0 ∷ 4 ∷ 0 ∷ 5 ∷ [])
    ++ (0 ∷ 1 ∷ 0 ∷ 29 ∷ 0 ∷ 2 ∷ 0 ∷ 26 ∷ 0 ∷ 0 ∷ 0 ∷ 25 ∷ 0 ∷ 4 ∷ 0 ∷ 12 ∷ 0 ∷ 3 ∷ 0 ∷ 8 ∷ [])
    ++ (0 ∷ 2 ∷ 0 ∷ 30 ∷ 0 ∷ 0 ∷ 0 ∷ 27 ∷ 0 ∷ 1 ∷ 0 ∷ 24 ∷ 0 ∷ 3 ∷ 0 ∷ 9 ∷ 0 ∷ 4 ∷ 0 ∷ 3 ∷ [])

-- ---- the read of a query
pub record QueryCase : Type 0 where
  pub bytes : List ℕ
  pub expected : QueryRead

-- an answer in the order number, rule, k, c, bytes taken
abbrev read_as : List ℕ → ℕ → ℕ → ℕ → ℕ → ℕ → QueryCase
read_as bytes number rule k c taken =
    record { bytes = bytes; expected = record { number = number; rule = rule; k = k; c = c; bytes = taken } }

abbrev refused_query : List ℕ → ℕ → QueryCase
refused_query bytes number = read_as bytes number 0 0 0 0

-- three weights of its own, 5, 6 and 7, by rule 1, k = 258
unfoldable pub own_three : List ℕ
own_three = 0 ∷ 0 ∷ 0 ∷ 11 ∷ 1 ∷ 1 ∷ 1 ∷ 2 ∷ 3 ∷ 0 ∷ 5 ∷ 0 ∷ 6 ∷ 0 ∷ 7 ∷ []

unfoldable pub query_cases : List QueryCase
query_cases =
    read_as query_of_b 0 0 4 0 9
    ∷ read_as own_three 0 1 258 3 15
    -- "Bytes after it belong to the next record"
    ∷ read_as (query_of_b ++ lists_of_b) 0 0 4 0 9
    ∷ refused_query [] 10
    ∷ refused_query (take 8 query_of_b) 10
    ∷ refused_query (0 ∷ 0 ∷ 0 ∷ 5 ∷ 2 ∷ 0 ∷ 0 ∷ 4 ∷ 0 ∷ []) 12
    ∷ refused_query (0 ∷ 0 ∷ 0 ∷ 4 ∷ 1 ∷ 0 ∷ 0 ∷ 4 ∷ 0 ∷ []) 13
    ∷ refused_query (1 ∷ 0 ∷ 0 ∷ 5 ∷ 1 ∷ 0 ∷ 0 ∷ 4 ∷ 0 ∷ []) 13
    ∷ refused_query (take 14 own_three) 11
    -- two faults: 10 before 12, 12 before 13, 13 before 11
    ∷ refused_query (0 ∷ 0 ∷ 0 ∷ 5 ∷ 2 ∷ 0 ∷ 0 ∷ 4 ∷ []) 10
    ∷ refused_query (0 ∷ 0 ∷ 0 ∷ 4 ∷ 2 ∷ 0 ∷ 0 ∷ 4 ∷ 0 ∷ []) 12
    ∷ refused_query (0 ∷ 0 ∷ 0 ∷ 6 ∷ 1 ∷ 0 ∷ 0 ∷ 4 ∷ 0 ∷ []) 13
    ∷ refused_query (255 ∷ 255 ∷ 255 ∷ 255 ∷ 1 ∷ 0 ∷ 0 ∷ 4 ∷ 0 ∷ []) 13
    ∷ []

pub queries_read : map (λ (c : QueryCase). read_query c.bytes) query_cases ≡ map (λ (c : QueryCase). c.expected) query_cases
unfolding records_opened query_of_b lists_of_b own_three query_cases
queries_read = refl

-- ---- the read of lists
pub record ListsCase : Type 0 where
  pub bytes : List ℕ
  pub items : List ℕ
  pub scores : List ℕ
  pub expected : ListsRead
  pub items_left : List ℕ
  pub scores_left : List ℕ

abbrev nines : ℕ → List ℕ
nines size = replicate size 9

-- refused, with so many places in each slice: the number alone, and both slices as lent
abbrev refused_with : List ℕ → ℕ → ℕ → ℕ → ListsCase
refused_with bytes items scores number =
    record {
      bytes = bytes;
      items = nines items;
      scores = nines scores;
      expected = record { number = number; m = 0; n = 0 };
      items_left = nines items;
      scores_left = nines scores;
    }

abbrev refused_lists_case : List ℕ → ℕ → ListsCase
refused_lists_case bytes number = refused_with bytes 3 3 number

-- one list of one entry, item 258 at 772, with the house weight 3: items are not looked at
unfoldable pub one_entry : List ℕ
one_entry = 0 ∷ 0 ∷ 0 ∷ 10 ∷ 1 ∷ 1 ∷ 0 ∷ 1 ∷ 0 ∷ 3 ∷ 1 ∷ 2 ∷ 3 ∷ 4 ∷ []

-- the same under version 2
unfoldable pub later_entry : List ℕ
later_entry = 0 ∷ 0 ∷ 0 ∷ 10 ∷ 2 ∷ 1 ∷ 0 ∷ 1 ∷ 0 ∷ 3 ∷ 1 ∷ 2 ∷ 3 ∷ 4 ∷ []

unfoldable pub lists_cases : List ListsCase
lists_cases =
    record {
      bytes = lists_of_b;
      items = nines 17;
      scores = nines 17;
      expected = record { number = 0; m = 3; n = 5 };
      items_left = 0 ∷ 1 ∷ 2 ∷ 3 ∷ 4 ∷ 1 ∷ 2 ∷ 0 ∷ 4 ∷ 3 ∷ 2 ∷ 0 ∷ 1 ∷ 3 ∷ 4 ∷ 9 ∷ 9 ∷ [];
      scores_left = 30 ∷ 28 ∷ 27 ∷ 10 ∷ 5 ∷ 29 ∷ 26 ∷ 25 ∷ 12 ∷ 8 ∷ 30 ∷ 27 ∷ 24 ∷ 9 ∷ 3 ∷ 9 ∷ 9 ∷ [];
    }
    ∷ record {
      bytes = one_entry;
      items = nines 1;
      scores = nines 3;
      expected = record { number = 0; m = 1; n = 1 };
      items_left = 258 ∷ [];
      scores_left = 772 ∷ 9 ∷ 9 ∷ [];
    }
    ∷ refused_lists_case (take 7 lists_of_b) 10
    ∷ refused_lists_case (take 13 one_entry) 11
    ∷ refused_lists_case (one_entry ++ (0 ∷ [])) 11
    ∷ refused_lists_case later_entry 12
    ∷ refused_lists_case (0 ∷ 0 ∷ 0 ∷ 4 ∷ 1 ∷ 0 ∷ 0 ∷ 1 ∷ []) 1
    ∷ refused_lists_case (0 ∷ 0 ∷ 0 ∷ 6 ∷ 1 ∷ 1 ∷ 0 ∷ 0 ∷ 0 ∷ 1 ∷ []) 1
    -- eight bytes are a whole head: its length does not fit one list of one item
    ∷ refused_lists_case (0 ∷ 0 ∷ 0 ∷ 4 ∷ 1 ∷ 1 ∷ 0 ∷ 1 ∷ []) 13
    ∷ refused_with lists_of_b 14 17 6
    ∷ refused_with lists_of_b 17 14 6
    -- two faults: 10 before 11, 11 before 12, 12 before 1, 1 before 13 (m = 9, n = 1,025), 13 before 6
    ∷ refused_lists_case (0 ∷ 0 ∷ 0 ∷ 4 ∷ 1 ∷ 1 ∷ 0 ∷ []) 10
    ∷ refused_lists_case (0 ∷ 0 ∷ 0 ∷ 5 ∷ 2 ∷ 1 ∷ 0 ∷ 1 ∷ []) 11
    ∷ refused_lists_case (0 ∷ 0 ∷ 0 ∷ 4 ∷ 2 ∷ 0 ∷ 0 ∷ 1 ∷ []) 12
    ∷ refused_lists_case (0 ∷ 0 ∷ 0 ∷ 4 ∷ 1 ∷ 9 ∷ 0 ∷ 1 ∷ []) 1
    ∷ refused_lists_case (0 ∷ 0 ∷ 0 ∷ 4 ∷ 1 ∷ 1 ∷ 4 ∷ 1 ∷ []) 1
    ∷ refused_with (0 ∷ 0 ∷ 0 ∷ 4 ∷ 1 ∷ 1 ∷ 0 ∷ 1 ∷ []) 0 0 13
    ∷ []

-- a case with what the model answers, and how it leaves the slices
abbrev read_in : ListsCase → ListsCase
read_in c =
    record {
      bytes = c.bytes;
      items = c.items;
      scores = c.scores;
      expected = read_lists c.bytes c.items c.scores;
      items_left = items_after c.bytes c.items c.scores;
      scores_left = scores_after c.bytes c.items c.scores;
    }

pub lists_read : map read_in lists_cases ≡ lists_cases
unfolding records_opened query_of_b lists_of_b one_entry later_entry lists_cases
lists_read = refl

-- ---- the weights
pub record ChoiceCase : Type 0 where
  pub query : List ℕ
  pub lists : List ℕ
  pub expected : Part
  pub weights : List ℕ

abbrev choice : List ℕ → List ℕ → Record → ℕ → ℕ → List ℕ → ChoiceCase
choice query lists source start size weights =
    let part : Part = record { source = source; start = start; size = size } in
    record { query = query; lists = lists; expected = part; weights = weights }

abbrev empty_choice : List ℕ → List ℕ → ChoiceCase
empty_choice query lists = choice query lists the_query 0 0 []

unfoldable pub choice_cases : List ChoiceCase
choice_cases =
    -- c = 0 takes the house weights; c = m takes its own; "Any other c hands on its own weights as well"
    choice query_of_b lists_of_b the_lists 8 6 (0 ∷ 1 ∷ 0 ∷ 1 ∷ 0 ∷ 1 ∷ [])
    ∷ choice own_three lists_of_b the_query 9 6 (0 ∷ 5 ∷ 0 ∷ 6 ∷ 0 ∷ 7 ∷ [])
    ∷ choice own_three one_entry the_query 9 6 (0 ∷ 5 ∷ 0 ∷ 6 ∷ 0 ∷ 7 ∷ [])
    ∷ choice (own_three ++ lists_of_b) lists_of_b the_query 9 6 (0 ∷ 5 ∷ 0 ∷ 6 ∷ 0 ∷ 7 ∷ [])
    -- either record is refused
    ∷ empty_choice (take 8 query_of_b) lists_of_b
    ∷ empty_choice (take 14 own_three) lists_of_b
    ∷ empty_choice query_of_b later_entry
    ∷ empty_choice own_three (lists_of_b ++ (0 ∷ []))
    ∷ []

-- a case with what the model chooses
abbrev chosen_in : ChoiceCase → ChoiceCase
chosen_in c =
    record {
      query = c.query;
      lists = c.lists;
      expected = chosen c.query c.lists;
      weights = part_of (chosen c.query c.lists) c.query c.lists;
    }

pub weights_chosen : map chosen_in choice_cases ≡ choice_cases
unfolding records_opened query_of_b lists_of_b own_three one_entry later_entry choice_cases
weights_chosen = refl
