-- What a search and the list check give back (docs/SPECIFICATION.md, "What a search gives back"), and what each lent slice holds
-- afterwards, refused or not.
--     Place, Found           a place of the shortlist; what a search that is not refused gives back
--     found                  it, of a search after the row at which it stops
--     places                 the work slice's numbers: each item's position in each list
--     Answer, answer         the whole answer of a search, refused or not
--     Slices, slices         the five slices that a search may write, as it leaves them
--     Told, checked         the list check's answer
--     work_after              the work slice as a search and the list check leave it
use Rattle.std.specs.Prelude.{List, [], map, ℕ, ◌+◌, ◌*◌, replicate}
use Rattle.model.specs.Words.{table, over}
use Rattle.model.specs.Given.{Poses, Query, place}
use Rattle.model.specs.Accesses.{sorted, direct, random, made, tally}
use Rattle.model.specs.Searches.{Search, rows, kept}
use Rattle.model.specs.Refusals.{Verdict, accepted, refused, Lent, poses_of, query_of, in_lists, search_shape, search_verdict, check_shape, check_verdict}

-- "Shortlist: k places of item, low, high, in the order kept"
pub record Place : Type 0 where
  pub item : ℕ
  pub low : ℕ
  pub high : ℕ

-- "Rows (or rounds), and the numbers of sorted, direct and random accesses", the shortlist and the tally
pub record Found : Type 0 where
  pub rows : ℕ
  pub sorted : ℕ
  pub direct : ℕ
  pub random : ℕ
  pub shortlist : List Place
  pub tally : List ℕ

-- what a search has found after p rows
unfoldable pub found_after : Poses → ℕ → Search → ℕ → Found
found_after s k r p =
    record {
      rows = p;
      sorted = made sorted (r.accesses p);
      direct = made direct (r.accesses p);
      random = made random (r.accesses p);
      shortlist = map (λ d. record { item = d; low = r.low p d; high = r.high p d }) (kept s k r p);
      tally = tally s (r.accesses p);
    }

-- what it has found after the row at which it stops
unfoldable pub found : Poses → ℕ → Search → Found
found s k r = found_after s k r (rows s k r)

-- "Work slice: m x n numbers; at (i-1) x n + d is item d's position in list i", from one
unfoldable pub places : Poses → List ℕ
places s = table (λ i d. place s i d + 1) s.n s.m

-- The whole answer: number, list and position of a refusal, and what was found
pub record Answer : Type 0 where
  pub number : ℕ
  pub list : ℕ
  pub position : ℕ
  pub rows : ℕ
  pub sorted : ℕ
  pub direct : ℕ
  pub random : ℕ
  pub shortlist : List Place
  pub tally : List ℕ

-- accepted: the number is 0. Refused: "All other numbers in it are 0"
unfoldable pub answering : Verdict → Found → Answer
answering accepted f =
    record {
      number = 0;
      list = 0;
      position = 0;
      rows = f.rows;
      sorted = f.sorted;
      direct = f.direct;
      random = f.random;
      shortlist = f.shortlist;
      tally = f.tally;
    }
answering (refused number i p) f =
    record { number = number; list = i; position = p; rows = 0; sorted = 0; direct = 0; random = 0; shortlist = []; tally = [] }

-- the search that a name, as TA, says, over what is lent
unfoldable pub search_of : (Poses → Query → Search) → Lent → Search
search_of r l = r (poses_of l) (query_of l)

-- the answer of a search
unfoldable pub answer : (Poses → Query → Search) → Lent → Answer
answer r l = answering (search_verdict l) (found (poses_of l) l.k (search_of r l))

-- new content for a lent slice: "Places beyond these lengths stay as lent"; refused, it stays as lent
unfoldable pub written : Verdict → List ℕ → List ℕ → List ℕ
written accepted new lent = over new lent
written (refused number i p) new lent = lent

-- the work slice once the list check is made: the positions; for a refusal "in the list check or after it, its first m x n
-- entries are 0"
unfoldable pub work_checked : Verdict → Poses → List ℕ → List ℕ
work_checked accepted s lent = over (places s) lent
work_checked (refused number i p) s lent = over (replicate (s.m * s.n) 0) lent

-- "The work slice stays as lent for a refusal before the list check"
unfoldable pub work_after : Verdict → Poses → List ℕ → List ℕ
work_after accepted s lent = work_checked (in_lists s) s lent
work_after (refused number i p) s lent = lent

-- The five slices that a search may write
pub record Slices : Type 0 where
  pub picks : List ℕ
  pub lows : List ℕ
  pub highs : List ℕ
  pub tally : List ℕ
  pub work : List ℕ

-- the shortlist "is lent as three slices"; "The shortlist and tally stay as lent" where the search is refused
unfoldable pub slices_with : Lent → Found → Slices
slices_with l f =
    record {
      picks = written (search_verdict l) (map (λ (x : Place). x.item) f.shortlist) l.picks;
      lows = written (search_verdict l) (map (λ (x : Place). x.low) f.shortlist) l.lows;
      highs = written (search_verdict l) (map (λ (x : Place). x.high) f.shortlist) l.highs;
      tally = written (search_verdict l) f.tally l.tally;
      work = work_after (search_shape l) (poses_of l) l.work;
    }

-- the five slices as a search leaves them
unfoldable pub slices : (Poses → Query → Search) → Lent → Slices
slices r l = slices_with l (found (poses_of l) l.k (search_of r l))

-- The list check's answer: number, list and position of a refusal, all 0 where the lists are accepted
pub record Told : Type 0 where
  pub number : ℕ
  pub list : ℕ
  pub position : ℕ

abbrev pub told : Verdict → Told
told accepted = record { number = 0; list = 0; position = 0 }
told (refused number i p) = record { number = number; list = i; position = p }

-- the list check by itself
unfoldable pub checked : Poses → List ℕ → Told
checked s work = told (check_verdict s work)

-- "and answers and leaves its work slice as a search does"
unfoldable pub checked_work : Poses → List ℕ → List ℕ
checked_work s work = work_after (check_shape s work) s work
