-- Case A with one thing damaged for each of the numbers 1 to 9, and what each lent slice holds afterwards, computed.
--     refusals, refused_rows     each number with its list and position, as a search answers
--     orders, ordered_rows       several things damaged at once: "The first met is the answer"
--     Check, checks_hold         the list check by itself: its answer and its work slice, accepted and refused
--     Left, slices_hold          the five slices as a search leaves them, accepted and refused
-- The slices to be written are lent two places longer than asked, full of nines, so that what stays as lent shows.
-- The values were worked out from the specification by `reference/worked_rows.py`, which shares nothing with the definitions.
-- Assumes nothing.
use Rattle.std.specs.Prelude.{◌≡◌, refl, Bool, true, ◌&&◌, ℕ, ◌+◌, ◌*◌, replicate, take}
use mathlib.Core.List.{List, [], ◌∷◌, ◌++◌, Memᴰ}
use Rattle.model.specs.Given.{Poses, Query}
use Rattle.model.specs.Searches.{Search, TA, BPA, BPA2, NRA}
use Rattle.model.specs.Refusals.{Lent, poses_of}
use Rattle.model.specs.Answers.{Told, checked, checked_work, Slices, slices, answer}
use Rattle.laws.specs.Opened.{searches_opened}
use Rattle.laws.specs.Cases.{Entry, ◌at◌, lending, lists_b, case_a, Row, asked, refuses, same_numbers, every_right, rows_hold, cases_opened}

-- ---- case A, damaged
-- "an item is n or more": list 2, position 3 holds item 5
unfoldable pub item_five : List Entry
item_five =
    (0 at 30 ∷ 1 at 28 ∷ 2 at 27 ∷ 3 at 10 ∷ 4 at 5 ∷ [])
    ++ (1 at 29 ∷ 2 at 26 ∷ 5 at 25 ∷ 4 at 12 ∷ 3 at 8 ∷ [])
    ++ (2 at 30 ∷ 0 at 27 ∷ 1 at 24 ∷ 3 at 9 ∷ 4 at 3 ∷ [])

-- "an item stood earlier in this list": list 3, position 2 holds item 2 again
unfoldable pub item_twice : List Entry
item_twice =
    (0 at 30 ∷ 1 at 28 ∷ 2 at 27 ∷ 3 at 10 ∷ 4 at 5 ∷ [])
    ++ (1 at 29 ∷ 2 at 26 ∷ 0 at 25 ∷ 4 at 12 ∷ 3 at 8 ∷ [])
    ++ (2 at 30 ∷ 2 at 27 ∷ 1 at 24 ∷ 3 at 9 ∷ 4 at 3 ∷ [])

-- "a score is above the one before it in this list": list 1, position 4 has score 28 after a 27
unfoldable pub score_risen : List Entry
score_risen =
    (0 at 30 ∷ 1 at 28 ∷ 2 at 27 ∷ 3 at 28 ∷ 4 at 5 ∷ [])
    ++ (1 at 29 ∷ 2 at 26 ∷ 0 at 25 ∷ 4 at 12 ∷ 3 at 8 ∷ [])
    ++ (2 at 30 ∷ 0 at 27 ∷ 1 at 24 ∷ 3 at 9 ∷ 4 at 3 ∷ [])

-- case A's numbers over other lists
abbrev over_lists : List Entry → Lent
over_lists entries = lending 3 5 0 2 (1 ∷ 1 ∷ 1 ∷ []) entries

-- the slices to be written two places longer than asked and full of nines, but for the work slice, which is given
unfoldable pub nines : List ℕ → Lent → Lent
nines work l =
    record {
      m = l.m;
      n = l.n;
      rule = l.rule;
      k = l.k;
      weights = l.weights;
      items = l.items;
      scores = l.scores;
      picks = replicate (l.k + 2) 9;
      lows = replicate (l.k + 2) 9;
      highs = replicate (l.k + 2) 9;
      tally = replicate (l.m * l.n + 2) 9;
      work = work;
    }

-- ---- a search's refusals
unfoldable pub refusals : List Row
refusals =
    asked TA (lending 9 5 0 2 (1 ∷ 1 ∷ 1 ∷ []) lists_b) (refuses 1 0 0)
    ∷ asked TA (lending 3 5 0 6 (1 ∷ 1 ∷ 1 ∷ []) lists_b) (refuses 2 0 0)
    ∷ asked BPA (lending 3 5 3 2 (1 ∷ 1 ∷ 1 ∷ []) lists_b) (refuses 3 0 0)
    ∷ asked BPA (lending 3 5 0 2 (1 ∷ 1001 ∷ 1 ∷ []) lists_b) (refuses 4 0 0)
    ∷ asked BPA2 (over_lists (take 14 lists_b)) (refuses 5 0 0)
    ∷ asked BPA2 (nines (replicate 14 9) case_a) (refuses 6 0 0)
    ∷ asked NRA (over_lists item_five) (refuses 7 2 3)
    ∷ asked NRA (over_lists item_twice) (refuses 8 3 2)
    ∷ asked NRA (over_lists score_risen) (refuses 9 1 4)
    ∷ []

refusals_right : every_right refusals ≡ true
unfolding searches_opened cases_opened item_five item_twice score_risen nines refusals
refusals_right = refl

pub refused_rows : (r : Row) → Memᴰ r refusals → answer r.search r.lent ≡ r.expected
refused_rows = rows_hold refusals refusals_right

-- ---- the order of the refusals
-- case A's first list with an item and a risen score at position 4
abbrev first_list : ℕ → List Entry
first_list d =
    (0 at 30 ∷ 1 at 28 ∷ 2 at 27 ∷ d at 28 ∷ 4 at 5 ∷ [])
    ++ (1 at 29 ∷ 2 at 26 ∷ 5 at 25 ∷ 4 at 12 ∷ 3 at 8 ∷ [])
    ++ (2 at 30 ∷ 2 at 27 ∷ 1 at 24 ∷ 3 at 9 ∷ 4 at 3 ∷ [])

-- a work slice that is too short
abbrev cramped : Lent → Lent
cramped l = nines (replicate 14 9) l

unfoldable pub orders : List Row
orders =
    asked TA (cramped (lending 9 5 3 6 (1 ∷ 1001 ∷ 1 ∷ []) (take 14 (first_list 5)))) (refuses 1 0 0)
    ∷ asked TA (cramped (lending 3 5 3 6 (1 ∷ 1001 ∷ 1 ∷ []) (take 14 (first_list 5)))) (refuses 2 0 0)
    ∷ asked BPA (cramped (lending 3 5 3 2 (1 ∷ 1001 ∷ 1 ∷ []) (take 14 (first_list 5)))) (refuses 3 0 0)
    ∷ asked BPA (cramped (lending 3 5 0 2 (1 ∷ 1001 ∷ 1 ∷ []) (take 14 (first_list 5)))) (refuses 4 0 0)
    ∷ asked BPA2 (cramped (lending 3 5 0 2 (1 ∷ 1 ∷ 1 ∷ []) (take 14 (first_list 5)))) (refuses 5 0 0)
    ∷ asked BPA2 (cramped (over_lists (first_list 5))) (refuses 6 0 0)
    ∷ asked NRA (over_lists (first_list 5)) (refuses 7 1 4)
    ∷ asked NRA (over_lists (first_list 0)) (refuses 8 1 4)
    ∷ asked NRA (over_lists (first_list 3)) (refuses 9 1 4)
    ∷ []

orders_right : every_right orders ≡ true
unfolding searches_opened cases_opened nines orders
orders_right = refl

pub ordered_rows : (r : Row) → Memᴰ r orders → answer r.search r.lent ≡ r.expected
ordered_rows = rows_hold orders orders_right

-- ---- the list check by itself
-- A list check: the entries as they stand in both slices, m, the work slice; its answer, and the work slice afterwards
pub record Check : Type 0 where
  pub entries : List Entry
  pub m : ℕ
  pub work : List ℕ
  pub told : List ℕ
  pub after : List ℕ

abbrev checking : ℕ → List Entry → List ℕ → List ℕ → List ℕ → Check
checking m entries work told after = record { entries = entries; m = m; work = work; told = told; after = after }

abbrev poses_in : Check → Poses
poses_in c = poses_of (lending c.m 5 0 1 [] c.entries)

abbrev three_of : Told → List ℕ
three_of r = r.number ∷ r.list ∷ r.position ∷ []

unfoldable pub check_right : Check → Bool
check_right c =
    same_numbers (three_of (checked (poses_in c) c.work)) c.told
    && same_numbers (checked_work (poses_in c) c.work) c.after

unfoldable pub every_check_right : List Check → Bool
every_check_right [] = true
every_check_right (c ∷ l) = check_right c && every_check_right l

abbrev nine17 : List ℕ
nine17 = replicate 17 9

-- the first m x n entries 0, the rest as lent
abbrev zeroed : List ℕ
zeroed = replicate 15 0 ++ replicate 2 9

unfoldable pub checks : List Check
checks =
    checking 3 lists_b nine17 (0 ∷ 0 ∷ 0 ∷ [])
    (1 ∷ 2 ∷ 3 ∷ 4 ∷ 5 ∷ 3 ∷ 1 ∷ 2 ∷ 5 ∷ 4 ∷ 2 ∷ 3 ∷ 1 ∷ 4 ∷ 5 ∷ 9 ∷ 9 ∷ [])
    ∷ checking 9 lists_b nine17 (1 ∷ 0 ∷ 0 ∷ []) nine17
    ∷ checking 3 (take 14 lists_b) nine17 (5 ∷ 0 ∷ 0 ∷ []) nine17
    ∷ checking 3 lists_b (replicate 14 9) (6 ∷ 0 ∷ 0 ∷ []) (replicate 14 9)
    ∷ checking 3 item_five nine17 (7 ∷ 2 ∷ 3 ∷ []) zeroed
    ∷ checking 3 item_twice nine17 (8 ∷ 3 ∷ 2 ∷ []) zeroed
    ∷ checking 3 score_risen nine17 (9 ∷ 1 ∷ 4 ∷ []) zeroed
    ∷ []

pub checks_hold : every_check_right checks ≡ true
unfolding searches_opened cases_opened item_five item_twice score_risen check_right every_check_right checks
checks_hold = refl

-- ---- the five slices as a search leaves them
pub record Left : Type 0 where
  pub search : Poses → Query → Search
  pub lent : Lent
  pub after : Slices

abbrev leaves : (Poses → Query → Search) → Lent → List ℕ → List ℕ → List ℕ → List ℕ → List ℕ → Left
leaves r l picks lows highs tally work =
    record { search = r; lent = l; after = record { picks = picks; lows = lows; highs = highs; tally = tally; work = work } }

unfoldable pub same_slices : Slices → Slices → Bool
same_slices a b =
    same_numbers a.picks b.picks
    && (same_numbers a.lows b.lows
    && (same_numbers a.highs b.highs && (same_numbers a.tally b.tally && same_numbers a.work b.work)))

unfoldable pub every_left_right : List Left → Bool
every_left_right [] = true
every_left_right (x ∷ l) = same_slices (slices x.search x.lent) x.after && every_left_right l

abbrev nine4 : List ℕ
nine4 = replicate 4 9

unfoldable pub lefts : List Left
lefts =
    leaves BPA2 (nines nine17 case_a) (2 ∷ 0 ∷ 9 ∷ 9 ∷ []) (83 ∷ 82 ∷ 9 ∷ 9 ∷ []) (83 ∷ 82 ∷ 9 ∷ 9 ∷ [])
    (1 ∷ 1 ∷ 1 ∷ 0 ∷ 0 ∷ 1 ∷ 1 ∷ 1 ∷ 0 ∷ 0 ∷ 1 ∷ 1 ∷ 1 ∷ 0 ∷ 0 ∷ 9 ∷ 9 ∷ [])
    (1 ∷ 2 ∷ 3 ∷ 4 ∷ 5 ∷ 3 ∷ 1 ∷ 2 ∷ 5 ∷ 4 ∷ 2 ∷ 3 ∷ 1 ∷ 4 ∷ 5 ∷ 9 ∷ 9 ∷ [])
    ∷ leaves NRA (nines nine17 (lending 3 5 3 2 (1 ∷ 1 ∷ 1 ∷ []) lists_b)) nine4 nine4 nine4 nine17 nine17
    ∷ leaves NRA (nines nine17 (over_lists item_five)) nine4 nine4 nine4 nine17 zeroed
    ∷ []

pub slices_hold : every_left_right lefts ≡ true
unfolding searches_opened cases_opened item_five item_twice score_risen nines same_slices every_left_right lefts
slices_hold = refl
