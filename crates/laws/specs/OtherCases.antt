-- Further cases, computed as the sixteen rows are: C, B's lists under rules 1 and 2, one more for NRA's second key, figures 1
-- and 2 of "Best Position Algorithms for Top-k Queries" and example 1 of "Efficient Top-k Query Algorithms Using K-skyband Partition".
-- The values were worked out from the specification by `reference/worked_rows.py`, which shares nothing with the definitions.
-- Assumes nothing.
use Rattle.std.specs.Prelude.{◌≡◌, refl, true}
use mathlib.Core.List.{List, [], ◌∷◌, Memᴰ}
use Rattle.model.specs.Searches.{TA, BPA, BPA2, NRA}
use Rattle.model.specs.Answers.{answer}
use Rattle.laws.specs.Opened.{searches_opened}
use Rattle.laws.specs.Cases.{Row, asked, gives, exact, between, case_c, smallest_b, largest_b, tied_lows, figure1, figure2, example1, every_right, rows_hold, cases_opened}

unfoldable pub others : List Row
others =
    asked TA case_c (gives 1 1 0 0 (exact 0 21 ∷ []) (1 ∷ []))
    ∷ asked BPA case_c (gives 1 1 0 0 (exact 0 21 ∷ []) (1 ∷ []))
    ∷ asked BPA2 case_c (gives 1 0 1 0 (exact 0 21 ∷ []) (1 ∷ []))
    ∷ asked NRA case_c (gives 1 1 0 0 (exact 0 21 ∷ []) (1 ∷ []))
    ∷ asked TA smallest_b
    (gives 2 6 0 12 (exact 2 26 ∷ [])
    (2 ∷ 2 ∷ 2 ∷ 0 ∷ 0 ∷ 2 ∷ 2 ∷ 2 ∷ 0 ∷ 0 ∷ 2 ∷ 2 ∷ 2 ∷ 0 ∷ 0 ∷ []))
    ∷ asked BPA smallest_b
    (gives 1 3 0 6 (exact 2 26 ∷ [])
    (1 ∷ 1 ∷ 1 ∷ 0 ∷ 0 ∷ 1 ∷ 1 ∷ 1 ∷ 0 ∷ 0 ∷ 1 ∷ 1 ∷ 1 ∷ 0 ∷ 0 ∷ []))
    ∷ asked BPA2 smallest_b
    (gives 1 0 3 6 (exact 2 26 ∷ [])
    (1 ∷ 1 ∷ 1 ∷ 0 ∷ 0 ∷ 1 ∷ 1 ∷ 1 ∷ 0 ∷ 0 ∷ 1 ∷ 1 ∷ 1 ∷ 0 ∷ 0 ∷ []))
    ∷ asked NRA smallest_b
    (gives 3 9 0 0 (exact 2 26 ∷ [])
    (1 ∷ 1 ∷ 1 ∷ 0 ∷ 0 ∷ 1 ∷ 1 ∷ 1 ∷ 0 ∷ 0 ∷ 1 ∷ 1 ∷ 1 ∷ 0 ∷ 0 ∷ []))
    ∷ asked TA largest_b
    (gives 1 3 0 6 (exact 0 30 ∷ [])
    (1 ∷ 1 ∷ 1 ∷ 0 ∷ 0 ∷ 1 ∷ 1 ∷ 1 ∷ 0 ∷ 0 ∷ 1 ∷ 1 ∷ 1 ∷ 0 ∷ 0 ∷ []))
    ∷ asked BPA largest_b
    (gives 1 3 0 6 (exact 0 30 ∷ [])
    (1 ∷ 1 ∷ 1 ∷ 0 ∷ 0 ∷ 1 ∷ 1 ∷ 1 ∷ 0 ∷ 0 ∷ 1 ∷ 1 ∷ 1 ∷ 0 ∷ 0 ∷ []))
    ∷ asked BPA2 largest_b
    (gives 1 0 3 6 (exact 0 30 ∷ [])
    (1 ∷ 1 ∷ 1 ∷ 0 ∷ 0 ∷ 1 ∷ 1 ∷ 1 ∷ 0 ∷ 0 ∷ 1 ∷ 1 ∷ 1 ∷ 0 ∷ 0 ∷ []))
    ∷ asked NRA largest_b
    (gives 1 3 0 0 (exact 0 30 ∷ [])
    (1 ∷ 0 ∷ 0 ∷ 0 ∷ 0 ∷ 1 ∷ 0 ∷ 0 ∷ 0 ∷ 0 ∷ 1 ∷ 0 ∷ 0 ∷ 0 ∷ 0 ∷ []))
    ∷ asked TA tied_lows (gives 2 4 0 4 (exact 0 10 ∷ exact 1 10 ∷ exact 2 8 ∷ []) (1 ∷ 2 ∷ 1 ∷ 1 ∷ 2 ∷ 1 ∷ []))
    ∷ asked BPA tied_lows (gives 2 4 0 4 (exact 0 10 ∷ exact 1 10 ∷ exact 2 8 ∷ []) (1 ∷ 2 ∷ 1 ∷ 1 ∷ 2 ∷ 1 ∷ []))
    ∷ asked BPA2 tied_lows (gives 2 0 3 3 (exact 0 10 ∷ exact 1 10 ∷ exact 2 8 ∷ []) (1 ∷ 1 ∷ 1 ∷ 1 ∷ 1 ∷ 1 ∷ []))
    ∷ asked NRA tied_lows
    (gives 2 4 0 0 (between 1 10 15 ∷ between 0 10 13 ∷ exact 2 8 ∷ [])
    (1 ∷ 1 ∷ 0 ∷ 1 ∷ 1 ∷ 0 ∷ []))
    ∷ asked TA figure1
    (gives 6 18 0 36 (exact 7 71 ∷ exact 2 70 ∷ exact 4 70 ∷ [])
    (2 ∷ 2 ∷ 2 ∷ 2 ∷ 2 ∷ 2 ∷ 2 ∷ 2 ∷ 2 ∷ 0 ∷ 0 ∷ 0 ∷ 2 ∷ 2 ∷ 2 ∷ 2 ∷ 2 ∷ 2 ∷ 2 ∷ 2 ∷ 2 ∷ 0 ∷ 0 ∷ 0 ∷ 2 ∷ 2 ∷ 2 ∷ 2 ∷ 2 ∷ 2 ∷ 0 ∷ 2 ∷ 2 ∷ 2 ∷ 0 ∷ 0 ∷ []))
    ∷ asked BPA figure1
    (gives 3 9 0 18 (exact 7 71 ∷ exact 2 70 ∷ exact 4 70 ∷ [])
    (1 ∷ 1 ∷ 1 ∷ 1 ∷ 1 ∷ 1 ∷ 1 ∷ 1 ∷ 1 ∷ 0 ∷ 0 ∷ 0 ∷ 1 ∷ 1 ∷ 1 ∷ 1 ∷ 1 ∷ 1 ∷ 1 ∷ 1 ∷ 1 ∷ 0 ∷ 0 ∷ 0 ∷ 1 ∷ 1 ∷ 1 ∷ 1 ∷ 1 ∷ 1 ∷ 0 ∷ 1 ∷ 1 ∷ 1 ∷ 0 ∷ 0 ∷ []))
    ∷ asked BPA2 figure1
    (gives 3 0 9 18 (exact 7 71 ∷ exact 2 70 ∷ exact 4 70 ∷ [])
    (1 ∷ 1 ∷ 1 ∷ 1 ∷ 1 ∷ 1 ∷ 1 ∷ 1 ∷ 1 ∷ 0 ∷ 0 ∷ 0 ∷ 1 ∷ 1 ∷ 1 ∷ 1 ∷ 1 ∷ 1 ∷ 1 ∷ 1 ∷ 1 ∷ 0 ∷ 0 ∷ 0 ∷ 1 ∷ 1 ∷ 1 ∷ 1 ∷ 1 ∷ 1 ∷ 0 ∷ 1 ∷ 1 ∷ 1 ∷ 0 ∷ 0 ∷ []))
    ∷ asked NRA figure1
    (gives 8 24 0 0 (exact 7 71 ∷ exact 2 70 ∷ exact 4 70 ∷ [])
    (1 ∷ 1 ∷ 1 ∷ 1 ∷ 1 ∷ 1 ∷ 1 ∷ 1 ∷ 0 ∷ 0 ∷ 0 ∷ 0 ∷ 1 ∷ 1 ∷ 1 ∷ 1 ∷ 1 ∷ 1 ∷ 1 ∷ 1 ∷ 0 ∷ 0 ∷ 0 ∷ 0 ∷ 1 ∷ 1 ∷ 1 ∷ 1 ∷ 1 ∷ 1 ∷ 1 ∷ 1 ∷ 0 ∷ 0 ∷ 0 ∷ 0 ∷ []))
    ∷ asked TA figure2
    (gives 7 21 0 42 (exact 2 70 ∷ exact 3 68 ∷ exact 5 66 ∷ [])
    (2 ∷ 2 ∷ 2 ∷ 2 ∷ 2 ∷ 2 ∷ 1 ∷ 2 ∷ 2 ∷ 2 ∷ 1 ∷ 1 ∷ 2 ∷ 2 ∷ 2 ∷ 2 ∷ 2 ∷ 2 ∷ 1 ∷ 2 ∷ 2 ∷ 2 ∷ 1 ∷ 1 ∷ 2 ∷ 2 ∷ 2 ∷ 2 ∷ 2 ∷ 2 ∷ 1 ∷ 2 ∷ 2 ∷ 2 ∷ 1 ∷ 1 ∷ []))
    ∷ asked BPA figure2
    (gives 7 21 0 42 (exact 2 70 ∷ exact 3 68 ∷ exact 5 66 ∷ [])
    (2 ∷ 2 ∷ 2 ∷ 2 ∷ 2 ∷ 2 ∷ 1 ∷ 2 ∷ 2 ∷ 2 ∷ 1 ∷ 1 ∷ 2 ∷ 2 ∷ 2 ∷ 2 ∷ 2 ∷ 2 ∷ 1 ∷ 2 ∷ 2 ∷ 2 ∷ 1 ∷ 1 ∷ 2 ∷ 2 ∷ 2 ∷ 2 ∷ 2 ∷ 2 ∷ 1 ∷ 2 ∷ 2 ∷ 2 ∷ 1 ∷ 1 ∷ []))
    ∷ asked BPA2 figure2
    (gives 4 0 12 24 (exact 2 70 ∷ exact 3 68 ∷ exact 5 66 ∷ [])
    (1 ∷ 1 ∷ 1 ∷ 1 ∷ 1 ∷ 1 ∷ 1 ∷ 1 ∷ 1 ∷ 1 ∷ 1 ∷ 1 ∷ 1 ∷ 1 ∷ 1 ∷ 1 ∷ 1 ∷ 1 ∷ 1 ∷ 1 ∷ 1 ∷ 1 ∷ 1 ∷ 1 ∷ 1 ∷ 1 ∷ 1 ∷ 1 ∷ 1 ∷ 1 ∷ 1 ∷ 1 ∷ 1 ∷ 1 ∷ 1 ∷ 1 ∷ []))
    ∷ asked NRA figure2
    (gives 9 27 0 0 (exact 2 70 ∷ exact 3 68 ∷ exact 5 66 ∷ [])
    (1 ∷ 1 ∷ 1 ∷ 1 ∷ 1 ∷ 1 ∷ 1 ∷ 1 ∷ 1 ∷ 0 ∷ 0 ∷ 0 ∷ 1 ∷ 1 ∷ 1 ∷ 1 ∷ 1 ∷ 1 ∷ 1 ∷ 1 ∷ 1 ∷ 0 ∷ 0 ∷ 0 ∷ 1 ∷ 1 ∷ 1 ∷ 1 ∷ 1 ∷ 1 ∷ 1 ∷ 1 ∷ 1 ∷ 0 ∷ 0 ∷ 0 ∷ []))
    ∷ asked TA example1
    (gives 2 4 0 4 (exact 2 183 ∷ exact 1 182 ∷ [])
    (1 ∷ 1 ∷ 0 ∷ 1 ∷ 1 ∷ 0 ∷ 1 ∷ 1 ∷ 0 ∷ 1 ∷ 1 ∷ 0 ∷ []))
    ∷ asked BPA example1
    (gives 2 4 0 4 (exact 2 183 ∷ exact 1 182 ∷ [])
    (1 ∷ 1 ∷ 0 ∷ 1 ∷ 1 ∷ 0 ∷ 1 ∷ 1 ∷ 0 ∷ 1 ∷ 1 ∷ 0 ∷ []))
    ∷ asked BPA2 example1
    (gives 2 0 4 4 (exact 2 183 ∷ exact 1 182 ∷ [])
    (1 ∷ 1 ∷ 0 ∷ 1 ∷ 1 ∷ 0 ∷ 1 ∷ 1 ∷ 0 ∷ 1 ∷ 1 ∷ 0 ∷ []))
    ∷ asked NRA example1
    (gives 4 8 0 0 (exact 2 183 ∷ exact 1 182 ∷ [])
    (1 ∷ 1 ∷ 1 ∷ 1 ∷ 0 ∷ 0 ∷ 1 ∷ 1 ∷ 1 ∷ 1 ∷ 0 ∷ 0 ∷ []))
    ∷ []

every_other_right : every_right others ≡ true
unfolding searches_opened cases_opened others
every_other_right = refl

pub other_rows : (r : Row) → Memᴰ r others → answer r.search r.lent ≡ r.expected
other_rows = rows_hold others every_other_right
