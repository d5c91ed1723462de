-- The four searches (docs/SPECIFICATION.md, "Searches"): how items are ranked, when a search stops, what each of the four is.
--     ahead, insert, ranked      the order of the shortlist
--     Search                     what a search is: its accesses, an item's low and high, its own test of the k kept
--     order, kept                the met items in their order; the first k of them
--     stops, rows                a search stops after a row; the row after which it first does
--     threshold, by_score         TA's and BPA's threshold; what TA, BPA and BPA2 have in common
--     TA, BPA, BPA2, NRA         the four
-- Rows and rounds are numbers of rows, so they read as on the page.
use Rattle.std.specs.Prelude.{Bool, false, cond, ◌&&◌, ◌||◌, List, [], ◌∷◌, ℕ, zero, suc, ◌-◌, eqb, leb, ltb, length, take}
use Rattle.model.specs.Words.{first, every_below, last_of}
use Rattle.model.specs.Given.{Poses, Query, score, place, overall, total}
use Rattle.model.specs.Accesses.{Access, rows_ta, rounds, rows_nra, visited, met, best}

-- "by low falling, then high falling, then item rising": item d stands before item e
unfoldable pub ahead : (ℕ → ℕ) → (ℕ → ℕ) → ℕ → ℕ → Bool
ahead low high d e =
    ltb (low e) (low d)
    || (eqb (low d) (low e) && (ltb (high e) (high d) || (eqb (high d) (high e) && ltb d e)))

-- item d put in its place in a list that is in the order
unfoldable pub insert : (ℕ → ℕ → Bool) → ℕ → List ℕ → List ℕ
insert before d [] = d ∷ []
insert before d (e ∷ l) = cond (before d e) (d ∷ e ∷ l) (e ∷ insert before d l)

-- the items below n that pass the test, in the order
unfoldable pub ranked : (ℕ → ℕ → Bool) → (ℕ → Bool) → ℕ → List ℕ
ranked before t zero = []
ranked before t (suc d) = cond (t d) (insert before d (ranked before t d)) (ranked before t d)

-- What a search is: the accesses of its first p rows, an item's low and high after them, and its own test of the k kept
pub record Search : Type 0 where
  pub accesses : ℕ → List Access
  pub low : ℕ → ℕ → ℕ
  pub high : ℕ → ℕ → ℕ
  pub done : ℕ → List ℕ → Bool

-- the items met in p rows, in the order of the shortlist
unfoldable pub order : Poses → Search → ℕ → List ℕ
order s r p = ranked (ahead (r.low p) (r.high p)) (met s (r.accesses p)) s.n

-- "the first k met items"
unfoldable pub kept : Poses → ℕ → Search → ℕ → List ℕ
kept s k r p = take k (order s r p)

-- "Stop when at least k items are met and" the search's own test holds
unfoldable pub stops : Poses → ℕ → Search → ℕ → Bool
stops s k r p = leb k (length (kept s k r p)) && r.done p (kept s k r p)

-- the row or round after which the search stops: "All four stop at row or round n at the latest"
unfoldable pub rows : Poses → ℕ → Search → ℕ
rows s k r = first (stops s k r) (s.n - 1) 1

-- "the overall score of the m local scores at" position b i of each list i, counted from one
unfoldable pub threshold : Poses → Query → (ℕ → ℕ) → ℕ
threshold s q b = overall s q (λ i. score s i (b i - 1))

-- TA, BPA and BPA2 "keep the first k met items by score falling, then item rising; low and high are both the score", and stop
-- when "the k-th best score is at or above the threshold"
unfoldable pub by_score : Poses → Query → (ℕ → List Access) → (ℕ → ℕ) → Search
by_score s q f h =
    record {
      accesses = f;
      low = λ p d. total s q d;
      high = λ p d. total s q d;
      done = λ p l. leb (h p) (total s q (last_of 0 l));
    }

-- "After the row, the threshold is the overall score of the m local scores at position p"
unfoldable pub TA : Poses → Query → Search
TA s q = by_score s q (rows_ta s) (λ p. threshold s q (λ i. p))

-- "As TA, but the threshold uses in list i the score at its best position"
unfoldable pub BPA : Poses → Query → Search
BPA s q = by_score s q (rows_ta s) (λ p. threshold s q (best s (rows_ta s p)))

-- "After the round, BPA's threshold and test"
unfoldable pub BPA2 : Poses → Query → Search
BPA2 s q = by_score s q (rounds s) (λ p. threshold s q (best s (rounds s p)))

-- item d's local score in list i after p rows of NRA, and x where it is "not yet read"
unfoldable pub read_or : Poses → ℕ → ℕ → ℕ → ℕ → ℕ
read_or s p d i x = cond (visited (rows_nra s p) i (place s i d)) (score s i (place s i d)) x

-- "An item's low is its overall score with 0 for each local score not yet read"
unfoldable pub low_nra : Poses → Query → ℕ → ℕ → ℕ
low_nra s q p d = overall s q (λ i. read_or s p d i 0)

-- "its high has, for each not yet read, that list's score at position p"
unfoldable pub high_nra : Poses → Query → ℕ → ℕ → ℕ
high_nra s q p d = overall s q (λ i. read_or s p d i (score s i (p - 1)))

-- item d is one of the list l
unfoldable pub among : ℕ → List ℕ → Bool
among d [] = false
among d (e ∷ l) = eqb d e || among d l

-- "every item outside those k, met or not, has a high at or below the lowest low kept"
unfoldable pub NRA : Poses → Query → Search
NRA s q =
    record {
      accesses = rows_nra s;
      low = low_nra s q;
      high = high_nra s q;
      done = λ p l. every_below (λ d. among d l || leb (high_nra s q p d) (low_nra s q p (last_of 0 l))) s.n;
    }
