-- The previewer's program on small inputs, computed: case B's input and output, whole, as docs/SPECIFICATION.md prints them; a refusal of
-- each part, in the order query, lists, searches; numbers as text.
--     Spelled, spelled       a number and its text
--     lines_of_b               the output of case B, in ASCII, a line to a line
--     ShownCase, shown       an input and the text that is printed for it
-- Assumes nothing.
use Rattle.std.specs.Prelude.{◌≡◌, refl, List, [], ◌∷◌, ◌++◌, map, ℕ, take, drop}
use Rattle.model.specs.Program.{taken, last_decimal_digits, digits_of, decimal, spaced, coloned, places_text, line, refused_line, answer_line, search_line, lists_of, lent_by, program_verdict, four_lines, printing, printed, program}
use Rattle.laws.specs.Opened.{searches_opened}
use Rattle.laws.specs.RecordCases.{records_opened, query_of_b, lists_of_b}

-- one name that opens every definition of the program
unfoldable pub program_opened : Unit {0}
unfolding searches_opened records_opened taken last_decimal_digits digits_of decimal spaced coloned places_text line refused_line answer_line search_line lists_of lent_by program_verdict four_lines printing printed program
program_opened = tt

-- ---- numbers
pub record Spelled : Type 0 where
  pub number : ℕ
  pub text : List ℕ

abbrev spells : ℕ → List ℕ → Spelled
spells x text = record { number = x; text = text }

unfoldable pub spelled : List Spelled
spelled =
    spells 0 (48 ∷ [])
    ∷ spells 7 (55 ∷ [])
    ∷ spells 9 (57 ∷ [])
    ∷ spells 10 (49 ∷ 48 ∷ [])
    ∷ spells 27 (50 ∷ 55 ∷ [])
    ∷ spells 100 (49 ∷ 48 ∷ 48 ∷ [])
    ∷ spells 1024 (49 ∷ 48 ∷ 50 ∷ 52 ∷ [])
    ∷ spells 65535 (54 ∷ 53 ∷ 53 ∷ 51 ∷ 53 ∷ [])
    ∷ spells 524280000 (53 ∷ 50 ∷ 52 ∷ 50 ∷ 56 ∷ 48 ∷ 48 ∷ 48 ∷ 48 ∷ [])
    ∷ spells 4294967295 (52 ∷ 50 ∷ 57 ∷ 52 ∷ 57 ∷ 54 ∷ 55 ∷ 50 ∷ 57 ∷ 53 ∷ [])
    ∷ []

pub numbers_spelled : map (λ (x : Spelled). decimal x.number) spelled ≡ map (λ (x : Spelled). x.text) spelled
unfolding program_opened spelled
numbers_spelled = refl

-- ---- whole inputs
unfoldable pub lines_of_b : List ℕ
lines_of_b =
    (84 ∷ 65 ∷ 32 ∷ 53 ∷ 32 ∷ 49 ∷ 53 ∷ 32 ∷ 48 ∷ 32 ∷ 51 ∷ 48 ∷ 32 ∷ 50 ∷ 58 ∷ 56 ∷ 51 ∷ 58 ∷ 56 ∷ 51 ∷ 32 ∷ 48 ∷ 58 ∷ 56 ∷ 50 ∷ 58 ∷ 56 ∷ 50 ∷ 32 ∷ 49 ∷ 58 ∷ 56 ∷ 49 ∷ 58 ∷ 56 ∷ 49 ∷ 32 ∷ 51 ∷ 58 ∷ 50 ∷ 55 ∷ 58 ∷ 50 ∷ 55 ∷ 10 ∷ [])
    ++ (66 ∷ 80 ∷ 65 ∷ 32 ∷ 52 ∷ 32 ∷ 49 ∷ 50 ∷ 32 ∷ 48 ∷ 32 ∷ 50 ∷ 52 ∷ 32 ∷ 50 ∷ 58 ∷ 56 ∷ 51 ∷ 58 ∷ 56 ∷ 51 ∷ 32 ∷ 48 ∷ 58 ∷ 56 ∷ 50 ∷ 58 ∷ 56 ∷ 50 ∷ 32 ∷ 49 ∷ 58 ∷ 56 ∷ 49 ∷ 58 ∷ 56 ∷ 49 ∷ 32 ∷ 51 ∷ 58 ∷ 50 ∷ 55 ∷ 58 ∷ 50 ∷ 55 ∷ 10 ∷ [])
    ++ (66 ∷ 80 ∷ 65 ∷ 50 ∷ 32 ∷ 50 ∷ 32 ∷ 48 ∷ 32 ∷ 53 ∷ 32 ∷ 49 ∷ 48 ∷ 32 ∷ 50 ∷ 58 ∷ 56 ∷ 51 ∷ 58 ∷ 56 ∷ 51 ∷ 32 ∷ 48 ∷ 58 ∷ 56 ∷ 50 ∷ 58 ∷ 56 ∷ 50 ∷ 32 ∷ 49 ∷ 58 ∷ 56 ∷ 49 ∷ 58 ∷ 56 ∷ 49 ∷ 32 ∷ 51 ∷ 58 ∷ 50 ∷ 55 ∷ 58 ∷ 50 ∷ 55 ∷ 10 ∷ [])
    ++ (78 ∷ 82 ∷ 65 ∷ 32 ∷ 53 ∷ 32 ∷ 49 ∷ 53 ∷ 32 ∷ 48 ∷ 32 ∷ 48 ∷ 32 ∷ 50 ∷ 58 ∷ 56 ∷ 51 ∷ 58 ∷ 56 ∷ 51 ∷ 32 ∷ 48 ∷ 58 ∷ 56 ∷ 50 ∷ 58 ∷ 56 ∷ 50 ∷ 32 ∷ 49 ∷ 58 ∷ 56 ∷ 49 ∷ 58 ∷ 56 ∷ 49 ∷ 32 ∷ 51 ∷ 58 ∷ 50 ∷ 55 ∷ 58 ∷ 50 ∷ 55 ∷ 10 ∷ [])

pub record ShownCase : Type 0 where
  pub input : List ℕ
  pub output : List ℕ

abbrev shows : List ℕ → List ℕ → ShownCase
shows input output = record { input = input; output = output }

-- `REFUSED`, a number by its digits, and 0 0
abbrev refused_text : List ℕ → List ℕ
refused_text digits = (82 ∷ 69 ∷ 70 ∷ 85 ∷ 83 ∷ 69 ∷ 68 ∷ 32 ∷ []) ++ digits ++ (32 ∷ 48 ∷ 32 ∷ 48 ∷ 10 ∷ [])

-- the first list of case B's input with item 5 at its second position: `REFUSED 7 1 2`
unfoldable pub item_too_large : List ℕ
item_too_large = query_of_b ++ take 18 lists_of_b ++ (0 ∷ 5 ∷ []) ++ drop 20 lists_of_b

unfoldable pub shown : List ShownCase
shown =
    shows (query_of_b ++ lists_of_b) lines_of_b
    -- too few bytes for the query's head, and for that of the lists
    ∷ shows [] (refused_text (49 ∷ 48 ∷ []))
    ∷ shows (query_of_b ++ take 7 lists_of_b) (refused_text (49 ∷ 48 ∷ []))
    -- a byte after the lists
    ∷ shows (query_of_b ++ lists_of_b ++ (0 ∷ [])) (refused_text (49 ∷ 49 ∷ []))
    -- the version of the query before that of the lists
    ∷ shows (take 4 query_of_b ++ (2 ∷ []) ++ drop 5 query_of_b ++ (7 ∷ lists_of_b)) (refused_text (49 ∷ 50 ∷ []))
    ∷ shows item_too_large (82 ∷ 69 ∷ 70 ∷ 85 ∷ 83 ∷ 69 ∷ 68 ∷ 32 ∷ 55 ∷ 32 ∷ 49 ∷ 32 ∷ 50 ∷ 10 ∷ [])
    ∷ []

pub inputs_shown : map (λ (x : ShownCase). program x.input) shown ≡ map (λ (x : ShownCase). x.output) shown
unfolding program_opened query_of_b lists_of_b lines_of_b item_too_large shown
inputs_shown = refl
