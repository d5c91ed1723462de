-- The previewer's program (docs/SPECIFICATION.md, "The previewer's program"): the bytes that it prints for the bytes that it is given.
--     taken                      the bytes of its input that count
--     decimal                    a number's text: "numbers are decimal without leading zeros"
--     spaced, coloned            a number after a space, after a colon
--     line, refused_line          the line of a search; the line of a refusal
--     name_ta .. name_nra          the searches' names, in ASCII
--     lists_of, lent_by            the list record after the query; what the searches are lent
--     program_verdict             its first refusal, if any
--     printed                    the whole text
use Rattle.std.specs.Prelude.{List, [], ◌∷◌, ◌++◌, ℕ, zero, suc, ◌+◌, ◌*◌, ◌/◌, ◌%◌, ◌^◌, ltb, take, drop, replicate}
use Rattle.model.specs.Words.{first, row}
use Rattle.model.specs.Given.{Poses, Query}
use Rattle.model.specs.Searches.{Search, TA, BPA, BPA2, NRA}
use Rattle.model.specs.Refusals.{Verdict, accepted, refused, ◌then◌, Lent, search_verdict}
use Rattle.model.specs.Answers.{Place, Answer, answer}
use Rattle.model.specs.Records.{query_rule, query_k, query_count, query_head, lists_m, lists_n, lists_head, entry_item, entry_score, chosen, part_of}

-- "at most 33,312 bytes are taken"
unfoldable pub taken : List ℕ → List ℕ
taken input = take 33312 input

-- the last so many decimal digits of a number, in ASCII
unfoldable pub last_decimal_digits : ℕ → ℕ → List ℕ
last_decimal_digits zero x = []
last_decimal_digits (suc k) x = last_decimal_digits k (x / 10) ++ ((48 + x % 10) ∷ [])

-- how many digits a number has: the first of 1, 2, .. with ten to that power above it
unfoldable pub digits_of : ℕ → ℕ
digits_of x = first (λ k. ltb x (10 ^ k)) x 1

-- "numbers are decimal without leading zeros"
unfoldable pub decimal : ℕ → List ℕ
decimal x = last_decimal_digits (digits_of x) x

-- "In every line the fields stand one space apart": a space, then the number
unfoldable pub spaced : ℕ → List ℕ
spaced x = 32 ∷ decimal x

unfoldable pub coloned : ℕ → List ℕ
coloned x = 58 ∷ decimal x

-- "item:low:high for each place"
unfoldable pub places_text : List Place → List ℕ
places_text [] = []
places_text (x ∷ l) = spaced x.item ++ coloned x.low ++ coloned x.high ++ places_text l

-- "a newline ends the line"
abbrev pub newline : List ℕ
newline = 10 ∷ []

-- "name, rows, sorted, direct, random, then item:low:high for each place"
unfoldable pub line : List ℕ → ℕ → ℕ → ℕ → ℕ → List Place → List ℕ
line name rows sorted direct random places =
    name ++ spaced rows ++ spaced sorted ++ spaced direct ++ spaced random ++ places_text places ++ newline

-- `REFUSED`, in ASCII
abbrev pub refused_word : List ℕ
refused_word = 82 ∷ 69 ∷ 70 ∷ 85 ∷ 83 ∷ 69 ∷ 68 ∷ []

-- "`REFUSED`, number, list, position"
unfoldable pub refused_line : ℕ → ℕ → ℕ → List ℕ
refused_line number i p = refused_word ++ spaced number ++ spaced i ++ spaced p ++ newline

-- the names, in ASCII
abbrev pub name_ta : List ℕ
name_ta = 84 ∷ 65 ∷ []

abbrev pub name_bpa : List ℕ
name_bpa = 66 ∷ 80 ∷ 65 ∷ []

abbrev pub name_bpa2 : List ℕ
name_bpa2 = 66 ∷ 80 ∷ 65 ∷ 50 ∷ []

abbrev pub name_nra : List ℕ
name_nra = 78 ∷ 82 ∷ 65 ∷ []

-- the line of what a search has answered
unfoldable pub answer_line : List ℕ → Answer → List ℕ
answer_line name a = line name a.rows a.sorted a.direct a.random a.shortlist

unfoldable pub search_line : List ℕ → (Poses → Query → Search) → Lent → List ℕ
search_line name r l = answer_line name (answer r l)

-- "It reads one query record and one list record": the bytes after the query record
unfoldable pub lists_of : List ℕ → List ℕ
lists_of b = drop (9 + 2 * query_count b) b

-- What the searches are lent: what the two records hold, the weights chosen, and room for the greatest set
unfoldable pub lent_by : List ℕ → Lent
lent_by b =
    record {
      m = lists_m (lists_of b);
      n = lists_n (lists_of b);
      rule = query_rule b;
      k = query_k b;
      weights = part_of (chosen b (lists_of b)) b (lists_of b);
      items = row (entry_item (lists_of b)) (lists_m (lists_of b) * lists_n (lists_of b));
      scores = row (entry_score (lists_of b)) (lists_m (lists_of b) * lists_n (lists_of b));
      picks = replicate 1024 0;
      lows = replicate 1024 0;
      highs = replicate 1024 0;
      tally = replicate 8192 0;
      work = replicate 8192 0;
    }

-- "The query is read first, then the lists, then the searches run"; the four test the same
unfoldable pub program_verdict : List ℕ → Verdict
program_verdict b = query_head b then lists_head (lists_of b) then search_verdict (lent_by b)

-- "one line per search, in the order TA, BPA, BPA2, NRA"
unfoldable pub four_lines : Lent → List ℕ
four_lines l = search_line name_ta TA l ++ search_line name_bpa BPA l ++ search_line name_bpa2 BPA2 l ++ search_line name_nra NRA l

-- "the first refusal ends it and is the only line"
unfoldable pub printing : Verdict → Lent → List ℕ
printing accepted l = four_lines l
printing (refused number i p) l = refused_line number i p

-- The text printed for the bytes taken
unfoldable pub printed : List ℕ → List ℕ
printed b = printing (program_verdict b) (lent_by b)

-- The program, from its standard input to its standard output
unfoldable pub program : List ℕ → List ℕ
program input = printed (taken input)
