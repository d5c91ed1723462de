-- The sets of docs/SPECIFICATION.md, "Worked cases", and of the papers that it names, as a search is lent them, and how a table of answers is tested.
--     ◌at◌, lending          an entry, "0 at 10"; what a search is lent, with the room that it asks for
--     case_a .. example1      the cases, in their numbers
--     Row, asked             a search, what it is lent, and the answer that it must give
--     gives, refuses         an answer; `exact`, `between`: a place of the shortlist
--     right, every_right      the test of a row, of a table
--     rows_hold              a table that passes the test: each row's answer is the one that stands there
-- Assumes nothing.
use Rattle.std.specs.Prelude.{◌≡◌, refl, Bool, true, false, ◌&&◌, ℕ, ◌*◌, ◌/◌, ◌%◌, eqb, replicate, get_or}
use Rattle.std.proofs.Common.{ap₂, ⊎_elim, eqb-true}
use mathlib.Core.List.Memᴰ
use mathlib.Core.List.{List, [], ◌∷◌, ◌++◌, map, Memᴰ}
use Rattle.std.proofs.lemmas.Bool.{false≢true}
use Rattle.model.specs.Given.{Poses, Query}
use Rattle.model.specs.Searches.{Search}
use Rattle.model.specs.Refusals.{Lent}
use Rattle.model.specs.Answers.{Place, Answer, answer}
use Rattle.laws.specs.Tests.{and_yes}

infix 70 ◌at◌
-- ---- how a case is written

-- an entry of a list: an item at a score
pub record Entry : Type 0 where
  pub item : ℕ
  pub score : ℕ

abbrev pub ◌at◌ : ℕ → ℕ → Entry
d at x = record { item = d; score = x }

-- weights as big-endian pairs of bytes
unfoldable pub pairs : List ℕ → List ℕ
pairs [] = []
pairs (w ∷ l) = w / 256 ∷ w % 256 ∷ pairs l

-- what a search is lent: m, n, rule, k, the weights, the lists one after the other, and just the room that it asks for
unfoldable pub lending : ℕ → ℕ → ℕ → ℕ → List ℕ → List Entry → Lent
lending m n rule k weights entries =
    record {
      m = m;
      n = n;
      rule = rule;
      k = k;
      weights = pairs weights;
      items = map (λ (e : Entry). e.item) entries;
      scores = map (λ (e : Entry). e.score) entries;
      picks = replicate k 0;
      lows = replicate k 0;
      highs = replicate k 0;
      tally = replicate (m * n) 0;
      work = replicate (m * n) 0;
    }

-- ---- the cases
unfoldable pub lists_b : List Entry
lists_b =
    (0 at 30 ∷ 1 at 28 ∷ 2 at 27 ∷ 3 at 10 ∷ 4 at 5 ∷ [])
    ++ (1 at 29 ∷ 2 at 26 ∷ 0 at 25 ∷ 4 at 12 ∷ 3 at 8 ∷ [])
    ++ (2 at 30 ∷ 0 at 27 ∷ 1 at 24 ∷ 3 at 9 ∷ 4 at 3 ∷ [])

-- A: "B's lists, k = 2"
unfoldable pub case_a : Lent
case_a = lending 3 5 0 2 (1 ∷ 1 ∷ 1 ∷ []) lists_b

unfoldable pub case_b : Lent
case_b = lending 3 5 0 4 (1 ∷ 1 ∷ 1 ∷ []) lists_b

-- C: "m = n = k = 1, score 7, weight 3"
unfoldable pub case_c : Lent
case_c = lending 1 1 0 1 (3 ∷ []) (0 at 7 ∷ [])

-- D: "m = n = k = 2, weights 1, sum. List 1: 0 at 10, 1 at 0. List 2: 1 at 10, 0 at 0"
unfoldable pub case_d : Lent
case_d = lending 2 2 0 2 (1 ∷ 1 ∷ []) (0 at 10 ∷ 1 at 0 ∷ 1 at 10 ∷ 0 at 0 ∷ [])

-- E: "m = n = 2, k = 1, weights 1, sum; both lists hold 1 at 5, then 0 at 5"
unfoldable pub case_e : Lent
case_e = lending 2 2 0 1 (1 ∷ 1 ∷ []) (1 at 5 ∷ 0 at 5 ∷ 1 at 5 ∷ 0 at 5 ∷ [])

-- "B's lists under rule 1, k = 1"
unfoldable pub smallest_b : Lent
smallest_b = lending 3 5 1 1 (1 ∷ 1 ∷ 1 ∷ []) lists_b

-- "Rule 2, k = 1"
unfoldable pub largest_b : Lent
largest_b = lending 3 5 2 1 (1 ∷ 1 ∷ 1 ∷ []) lists_b

-- two items with one low and two highs after two rows: NRA's second key
unfoldable pub tied_lows : Lent
tied_lows =
    lending 2 3 0 3 (1 ∷ 1 ∷ [])
    ((0 at 10 ∷ 2 at 5 ∷ 1 at 0 ∷ []) ++ (1 at 10 ∷ 2 at 3 ∷ 0 at 0 ∷ []))

-- figure 1 of "Best Position Algorithms for Top-k Queries"
unfoldable pub figure1 : Lent
figure1 =
    lending 3 12 0 3 (1 ∷ 1 ∷ 1 ∷ [])
    ((0 at 30 ∷ 3 at 28 ∷ 8 at 27 ∷ 2 at 26 ∷ 6 at 25 ∷ 7 at 23 ∷ 4 at 17 ∷ 5 at 14 ∷ 1 at 11 ∷ 9 at 10 ∷ 10 at 0 ∷ 11 at 0 ∷ [])
    ++ (1 at 28 ∷ 5 at 27 ∷ 6 at 25 ∷ 4 at 24 ∷ 8 at 23 ∷ 0 at 21 ∷ 7 at 20 ∷ 2 at 14 ∷ 3 at 13 ∷ 11 at 12 ∷ 9 at 0 ∷ 10 at 0 ∷ [])
    ++ (2 at 30 ∷ 4 at 29 ∷ 7 at 28 ∷ 3 at 25 ∷ 1 at 24 ∷ 5 at 19 ∷ 10 at 15 ∷ 0 at 14 ∷ 8 at 12 ∷ 6 at 11 ∷ 9 at 0 ∷ 11 at 0 ∷ []))

-- figure 2 of the same
unfoldable pub figure2 : Lent
figure2 =
    lending 3 12 0 3 (1 ∷ 1 ∷ 1 ∷ [])
    ((0 at 30 ∷ 3 at 28 ∷ 8 at 27 ∷ 2 at 26 ∷ 6 at 25 ∷ 7 at 24 ∷ 9 at 17 ∷ 5 at 14 ∷ 1 at 11 ∷ 4 at 10 ∷ 10 at 0 ∷ 11 at 0 ∷ [])
    ++ (1 at 28 ∷ 5 at 27 ∷ 6 at 25 ∷ 4 at 24 ∷ 8 at 23 ∷ 0 at 22 ∷ 11 at 20 ∷ 2 at 14 ∷ 3 at 13 ∷ 7 at 12 ∷ 9 at 0 ∷ 10 at 0 ∷ [])
    ++ (2 at 30 ∷ 4 at 29 ∷ 7 at 28 ∷ 3 at 27 ∷ 1 at 26 ∷ 5 at 25 ∷ 10 at 15 ∷ 0 at 13 ∷ 8 at 12 ∷ 6 at 11 ∷ 9 at 0 ∷ 11 at 0 ∷ []))

-- example 1 of "Efficient Top-k Query Algorithms Using K-skyband Partition", its scores times 100
unfoldable pub example1 : Lent
example1 =
    lending 2 6 0 2 (1 ∷ 1 ∷ [])
    ((1 at 95 ∷ 0 at 92 ∷ 4 at 89 ∷ 2 at 88 ∷ 3 at 87 ∷ 5 at 86 ∷ [])
    ++ (2 at 95 ∷ 3 at 90 ∷ 5 at 88 ∷ 1 at 87 ∷ 0 at 87 ∷ 4 at 85 ∷ []))

-- ---- what must be answered
abbrev pub exact : ℕ → ℕ → Place
exact d x = record { item = d; low = x; high = x }

abbrev pub between : ℕ → ℕ → ℕ → Place
between d x y = record { item = d; low = x; high = y }

-- an accepted answer: rows, sorted, direct, random, the shortlist, the tally list by list
abbrev pub gives : ℕ → ℕ → ℕ → ℕ → List Place → List ℕ → Answer
gives rows sorted direct random shortlist tally =
    record {
      number = 0;
      list = 0;
      position = 0;
      rows = rows;
      sorted = sorted;
      direct = direct;
      random = random;
      shortlist = shortlist;
      tally = tally;
    }

-- a refusal: number, list, position
abbrev pub refuses : ℕ → ℕ → ℕ → Answer
refuses number i p =
    record { number = number; list = i; position = p; rows = 0; sorted = 0; direct = 0; random = 0; shortlist = []; tally = [] }

-- A row of a table: a search, what it is lent, what it must answer
pub record Row : Type 0 where
  pub search : Poses → Query → Search
  pub lent : Lent
  pub expected : Answer

abbrev pub asked : (Poses → Query → Search) → Lent → Answer → Row
asked r l a = record { search = r; lent = l; expected = a }

-- ---- the test of a table
unfoldable pub same_numbers : List ℕ → List ℕ → Bool
same_numbers [] [] = true
same_numbers [] (y ∷ k) = false
same_numbers (x ∷ l) [] = false
same_numbers (x ∷ l) (y ∷ k) = eqb x y && same_numbers l k

unfoldable pub same_places : List Place → List Place → Bool
same_places [] [] = true
same_places [] (y ∷ k) = false
same_places (x ∷ l) [] = false
same_places (x ∷ l) (y ∷ k) =
    eqb x.item y.item && (eqb x.low y.low && (eqb x.high y.high && same_places l k))

-- the answer's seven numbers
unfoldable pub numbers_of : Answer → List ℕ
numbers_of a = a.number ∷ a.list ∷ a.position ∷ a.rows ∷ a.sorted ∷ a.direct ∷ a.random ∷ []

unfoldable pub same_answer : Answer → Answer → Bool
same_answer a b =
    same_numbers (numbers_of a) (numbers_of b)
    && (same_places a.shortlist b.shortlist && same_numbers a.tally b.tally)

-- a row passes: the search's answer is the one that stands there
unfoldable pub right : Row → Bool
right r = same_answer (answer r.search r.lent) r.expected

unfoldable pub every_right : List Row → Bool
every_right [] = true
every_right (r ∷ l) = right r && every_right l

-- one name that opens every case and the test
unfoldable pub cases_opened : Unit {0}
unfolding pairs lending lists_b case_a case_b case_c case_d case_e smallest_b largest_b tied_lows figure1 figure2 example1 same_numbers same_places numbers_of same_answer right every_right
cases_opened = tt

-- ---- from the test to the answers
pub same_numbers_equal : (l k : List ℕ) → same_numbers l k ≡ true → l ≡ k
unfolding same_numbers
same_numbers_equal [] [] e = refl
same_numbers_equal [] (y ∷ k) e = absurd (false≢true e)
same_numbers_equal (x ∷ l) [] e = absurd (false≢true e)
same_numbers_equal (x ∷ l) (y ∷ k) e =
    let p = and_yes (eqb x y) (same_numbers l k) e in
    ap₂ (λ (a : ℕ) (t : List ℕ). a ∷ t) (eqb-true x y p.0) (same_numbers_equal l k p.1)

same_places_equal : (l k : List Place) → same_places l k ≡ true → l ≡ k
unfolding same_places
same_places_equal [] [] e = refl
same_places_equal [] (y ∷ k) e = absurd (false≢true e)
same_places_equal (x ∷ l) [] e = absurd (false≢true e)
same_places_equal (x ∷ l) (y ∷ k) e =
    let p = and_yes (eqb x.item y.item) (eqb x.low y.low && (eqb x.high y.high && same_places l k)) e in
    let q = and_yes (eqb x.low y.low) (eqb x.high y.high && same_places l k) p.1 in
    let r = and_yes (eqb x.high y.high) (same_places l k) q.1 in
    let same : x ≡ y =
    λ j. record {
      item = eqb-true x.item y.item p.0 j;
      low = eqb-true x.low y.low q.0 j;
      high = eqb-true x.high y.high r.0 j;
    } in
    ap₂ (λ (a : Place) (t : List Place). a ∷ t) same (same_places_equal l k r.1)

same_answer_equal : (a b : Answer) → same_answer a b ≡ true → a ≡ b
unfolding same_answer numbers_of
same_answer_equal a b e =
    let p = and_yes (same_numbers (numbers_of a) (numbers_of b)) (same_places a.shortlist b.shortlist && same_numbers a.tally b.tally) e in
    let q = and_yes (same_places a.shortlist b.shortlist) (same_numbers a.tally b.tally) p.1 in
    let s = same_places_equal a.shortlist b.shortlist q.0 in
    let t = same_numbers_equal a.tally b.tally q.1 in
    let n = same_numbers_equal (numbers_of a) (numbers_of b) p.0 in
    λ j. record {
      number = get_or (n j) 0 0;
      list = get_or (n j) 1 0;
      position = get_or (n j) 2 0;
      rows = get_or (n j) 3 0;
      sorted = get_or (n j) 4 0;
      direct = get_or (n j) 5 0;
      random = get_or (n j) 6 0;
      shortlist = s j;
      tally = t j;
    }

-- "the answer of this search on this case is this", for each row of a table that passes the test
pub rows_hold : (table : List Row) → every_right table ≡ true → (r : Row) → Memᴰ r table
    → answer r.search r.lent ≡ r.expected
unfolding every_right right
rows_hold [] e r h = absurd (Memᴰ.not-nil h)
rows_hold (x ∷ l) e r h =
    let p = and_yes (right x) (every_right l) e in
    ⊎_elim
    (λ (q : r ≡ x). rw q (same_answer_equal (answer x.search x.lent) x.expected p.0))
    (λ (later : Memᴰ r l). rows_hold l p.1 r later)
    (Memᴰ.cases_cons h)
