-- The sixteen rows of docs/SPECIFICATION.md, "Worked cases": A, B, D and E under all four searches, as one table under one theorem about the rules.
-- antt computes the test of the whole table; `rows_hold` makes of it, for each row, that the search's answer is the one that
-- stands there: rows, the three counts, every item:low:high and the whole tally.
-- The values were worked out from the specification by `reference/worked_rows.py`, which shares nothing with the definitions.
-- Assumes nothing.
use Rattle.std.specs.Prelude.{◌≡◌, refl, true}
use mathlib.Core.List.{List, [], ◌∷◌, Memᴰ}
use Rattle.model.specs.Searches.{TA, BPA, BPA2, NRA}
use Rattle.model.specs.Answers.{answer}
use Rattle.laws.specs.Cases.{Row, asked, gives, exact, between, case_a, case_b, case_d, case_e, every_right, rows_hold, cases_opened}
use Rattle.laws.specs.Opened.{searches_opened}

unfoldable pub sixteen : List Row
sixteen =
    asked TA case_a
    (gives 2 6 0 12 (exact 2 83 ∷ exact 0 82 ∷ [])
    (2 ∷ 2 ∷ 2 ∷ 0 ∷ 0 ∷ 2 ∷ 2 ∷ 2 ∷ 0 ∷ 0 ∷ 2 ∷ 2 ∷ 2 ∷ 0 ∷ 0 ∷ []))
    ∷ asked BPA case_a
    (gives 1 3 0 6 (exact 2 83 ∷ exact 0 82 ∷ [])
    (1 ∷ 1 ∷ 1 ∷ 0 ∷ 0 ∷ 1 ∷ 1 ∷ 1 ∷ 0 ∷ 0 ∷ 1 ∷ 1 ∷ 1 ∷ 0 ∷ 0 ∷ []))
    ∷ asked BPA2 case_a
    (gives 1 0 3 6 (exact 2 83 ∷ exact 0 82 ∷ [])
    (1 ∷ 1 ∷ 1 ∷ 0 ∷ 0 ∷ 1 ∷ 1 ∷ 1 ∷ 0 ∷ 0 ∷ 1 ∷ 1 ∷ 1 ∷ 0 ∷ 0 ∷ []))
    ∷ asked NRA case_a
    (gives 3 9 0 0 (exact 2 83 ∷ exact 0 82 ∷ [])
    (1 ∷ 1 ∷ 1 ∷ 0 ∷ 0 ∷ 1 ∷ 1 ∷ 1 ∷ 0 ∷ 0 ∷ 1 ∷ 1 ∷ 1 ∷ 0 ∷ 0 ∷ []))
    ∷ asked TA case_b
    (gives 5 15 0 30 (exact 2 83 ∷ exact 0 82 ∷ exact 1 81 ∷ exact 3 27 ∷ [])
    (3 ∷ 3 ∷ 3 ∷ 3 ∷ 3 ∷ 3 ∷ 3 ∷ 3 ∷ 3 ∷ 3 ∷ 3 ∷ 3 ∷ 3 ∷ 3 ∷ 3 ∷ []))
    ∷ asked BPA case_b
    (gives 4 12 0 24 (exact 2 83 ∷ exact 0 82 ∷ exact 1 81 ∷ exact 3 27 ∷ [])
    (3 ∷ 3 ∷ 3 ∷ 2 ∷ 1 ∷ 3 ∷ 3 ∷ 3 ∷ 1 ∷ 2 ∷ 3 ∷ 3 ∷ 3 ∷ 2 ∷ 1 ∷ []))
    ∷ asked BPA2 case_b
    (gives 2 0 5 10 (exact 2 83 ∷ exact 0 82 ∷ exact 1 81 ∷ exact 3 27 ∷ [])
    (1 ∷ 1 ∷ 1 ∷ 1 ∷ 1 ∷ 1 ∷ 1 ∷ 1 ∷ 1 ∷ 1 ∷ 1 ∷ 1 ∷ 1 ∷ 1 ∷ 1 ∷ []))
    ∷ asked NRA case_b
    (gives 5 15 0 0 (exact 2 83 ∷ exact 0 82 ∷ exact 1 81 ∷ exact 3 27 ∷ [])
    (1 ∷ 1 ∷ 1 ∷ 1 ∷ 1 ∷ 1 ∷ 1 ∷ 1 ∷ 1 ∷ 1 ∷ 1 ∷ 1 ∷ 1 ∷ 1 ∷ 1 ∷ []))
    ∷ asked TA case_d (gives 2 4 0 4 (exact 0 10 ∷ exact 1 10 ∷ []) (2 ∷ 2 ∷ 2 ∷ 2 ∷ []))
    ∷ asked BPA case_d (gives 1 2 0 2 (exact 0 10 ∷ exact 1 10 ∷ []) (1 ∷ 1 ∷ 1 ∷ 1 ∷ []))
    ∷ asked BPA2 case_d (gives 1 0 2 2 (exact 0 10 ∷ exact 1 10 ∷ []) (1 ∷ 1 ∷ 1 ∷ 1 ∷ []))
    ∷ asked NRA case_d (gives 1 2 0 0 (between 0 10 20 ∷ between 1 10 20 ∷ []) (1 ∷ 0 ∷ 1 ∷ 0 ∷ []))
    ∷ asked TA case_e (gives 1 2 0 2 (exact 1 10 ∷ []) (2 ∷ 0 ∷ 2 ∷ 0 ∷ []))
    ∷ asked BPA case_e (gives 1 2 0 2 (exact 1 10 ∷ []) (2 ∷ 0 ∷ 2 ∷ 0 ∷ []))
    ∷ asked BPA2 case_e (gives 1 0 2 2 (exact 0 10 ∷ []) (1 ∷ 1 ∷ 1 ∷ 1 ∷ []))
    ∷ asked NRA case_e (gives 1 2 0 0 (exact 1 10 ∷ []) (1 ∷ 0 ∷ 1 ∷ 0 ∷ []))
    ∷ []

every_row_right : every_right sixteen ≡ true
unfolding searches_opened cases_opened sixteen
every_row_right = refl

-- "A, B, D and E with all four searches, sixteen rows"
pub sixteen_rows : (r : Row) → Memᴰ r sixteen → answer r.search r.lent ≡ r.expected
sixteen_rows = rows_hold sixteen every_row_right
