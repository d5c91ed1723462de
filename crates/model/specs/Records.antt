-- The two records (docs/SPECIFICATION.md, "Records") and the refusals 10 to 13 with their order.
--     byte, quad                         a byte, a four-byte number, big-endian; 0 past the end
--     query_head, read_query, QueryRead    a query record's tests; what its read answers
--     lists_head, read_lists, ListsRead    a list record's tests; what its read answers
--     entry_item, entry_score              an entry of a list record
--     items_after, scores_after            the two slices as the read of a list record leaves them
--     Part, chosen, part_of               the weights chosen, as a part of the one record or the other
use Rattle.std.specs.Prelude.{cond, not, ◌||◌, List, ℕ, ◌+◌, ◌-◌, ◌*◌, eqb, ltb, length, get_or, take, drop}
use Rattle.model.specs.Words.{row}
use Rattle.model.specs.Refusals.{Verdict, accepted, refused, ◌when◌, ◌then◌, pair, wrong_size, short}
use Rattle.model.specs.Answers.{written}

-- the byte at an offset
abbrev pub byte : List ℕ → ℕ → ℕ
byte b at = get_or b at 0

-- "Big-endian": the number in the four bytes from an offset on
unfoldable pub quad : List ℕ → ℕ → ℕ
quad b at = pair b at * 65536 + pair b (at + 2)

-- Query: "length (4 bytes), version 1, rule (1), k (2), weight count c (1), c weights (2 each)"
unfoldable pub query_rule : List ℕ → ℕ
query_rule b = byte b 5

unfoldable pub query_k : List ℕ → ℕ
query_k b = pair b 6

unfoldable pub query_count : List ℕ → ℕ
query_count b = byte b 8

-- "Length is 5 + 2c. Fixed head 9 bytes. Order: 10, 12, 13, 11"; 11 for a record that others may follow: "length runs past the
-- input"; "the length counts the bytes after itself"
unfoldable pub query_head : List ℕ → Verdict
query_head b =
    10 when ltb (length b) 9
    then 12 when not (eqb (byte b 4) 1)
    then 13 when not (eqb (quad b 0) (5 + 2 * query_count b))
    then 11 when ltb (length b - 4) (quad b 0)

-- what the read of a query answers: rule, k, c, and the bytes that it took
pub record QueryRead : Type 0 where
  pub number : ℕ
  pub rule : ℕ
  pub k : ℕ
  pub c : ℕ
  pub bytes : ℕ

-- "The answer of a refused read is the number alone, with all else 0"
unfoldable pub query_answer : Verdict → List ℕ → QueryRead
query_answer accepted b =
    record { number = 0; rule = query_rule b; k = query_k b; c = query_count b; bytes = 9 + 2 * query_count b }
query_answer (refused number i p) b = record { number = number; rule = 0; k = 0; c = 0; bytes = 0 }

unfoldable pub read_query : List ℕ → QueryRead
read_query b = query_answer (query_head b) b

-- Lists: "length (4), version 1, m (1), n (2), m house weights (2 each), then list by list n entries of item (2), score (2)"
unfoldable pub lists_m : List ℕ → ℕ
lists_m b = byte b 5

unfoldable pub lists_n : List ℕ → ℕ
lists_n b = pair b 6

-- entry j's item and score, entries counted from 0 through all lists
unfoldable pub entry_item : List ℕ → ℕ → ℕ
entry_item b j = pair b (8 + 2 * lists_m b + 4 * j)

unfoldable pub entry_score : List ℕ → ℕ → ℕ
entry_score b j = pair b (10 + 2 * lists_m b + 4 * j)

-- "Length is 4 + 2m + 4mn. Fixed head 8 bytes. Order: 10, 11, 12, 1, 13"; 11 for a record that ends its input: "length differs
-- from the bytes after it"
unfoldable pub lists_head : List ℕ → Verdict
lists_head b =
    10 when ltb (length b) 8
    then 11 when not (eqb (quad b 0) (length b - 4))
    then 12 when not (eqb (byte b 4) 1)
    then 1 when wrong_size (lists_m b) (lists_n b)
    then 13 when not (eqb (quad b 0) (4 + 2 * lists_m b + 4 * (lists_m b * lists_n b)))

-- and last 6: "under m x n for a read's two slices"
unfoldable pub lists_verdict : List ℕ → List ℕ → List ℕ → Verdict
lists_verdict b items scores =
    lists_head b then 6 when (short (lists_m b * lists_n b) items || short (lists_m b * lists_n b) scores)

-- what the read of lists answers: m and n
pub record ListsRead : Type 0 where
  pub number : ℕ
  pub m : ℕ
  pub n : ℕ

unfoldable pub lists_answer : Verdict → List ℕ → ListsRead
lists_answer accepted b = record { number = 0; m = lists_m b; n = lists_n b }
lists_answer (refused number i p) b = record { number = number; m = 0; n = 0 }

unfoldable pub read_lists : List ℕ → List ℕ → List ℕ → ListsRead
read_lists b items scores = lists_answer (lists_verdict b items scores) b

-- "It fills an item and a score slice. Entries past m x n stay as lent. A refused read leaves both slices as lent"
unfoldable pub items_after : List ℕ → List ℕ → List ℕ → List ℕ
items_after b items scores = written (lists_verdict b items scores) (row (entry_item b) (lists_m b * lists_n b)) items

unfoldable pub scores_after : List ℕ → List ℕ → List ℕ → List ℕ
scores_after b items scores = written (lists_verdict b items scores) (row (entry_score b) (lists_m b * lists_n b)) scores

-- "The weights chosen are that part of the one record or the other, uncopied": the record, where the part starts, how long it is
pub data Record : Type 0 where
  the_query : Record
  the_lists : Record

pub record Part : Type 0 where
  pub source : Record
  pub start : ℕ
  pub size : ℕ

-- "A query with c = 0 takes the creature's house weights; c = m takes its own. Any other c hands on its own weights as well"
unfoldable pub chosen_part : List ℕ → List ℕ → Part
chosen_part query lists =
    cond (eqb (query_count query) 0)
    (record { source = the_lists; start = 8; size = 2 * lists_m lists })
    (record { source = the_query; start = 9; size = 2 * query_count query })

-- "Where either record is one that its read refuses (6 apart), the part is empty"
unfoldable pub choosing : Verdict → List ℕ → List ℕ → Part
choosing accepted query lists = chosen_part query lists
choosing (refused number i p) query lists = record { source = the_query; start = 0; size = 0 }

unfoldable pub chosen : List ℕ → List ℕ → Part
chosen query lists = choosing (query_head query then lists_head lists) query lists

-- the record that a part is of
unfoldable pub record_of : Record → List ℕ → List ℕ → List ℕ
record_of the_query query lists = query
record_of the_lists query lists = lists

-- the bytes of a part
unfoldable pub part_of : Part → List ℕ → List ℕ → List ℕ
part_of part query lists = take part.size (drop part.start (record_of part.source query lists))
