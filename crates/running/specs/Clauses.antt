-- What the run of a search promises, by the search's number.
--     search_at           the search of a number: 0 TA, 1 BPA, 2 BPA2, any other NRA
--     search_kept         the search of a number is that of its method
--     Did                what a run has done: the row at which it stops and its accesses
--     Runs               what the run of a search promises: what it has done, and the four slices that it writes
-- Assumes nothing.
use Rattle.std.specs.Prelude.{◌≡◌, refl, List, ℕ, zero, suc}
use Rattle.poses.specs.Methods.{method_of, method_number}
use Rattle.model.specs.Given.{Poses, Query}
use Rattle.model.specs.Accesses.{sorted, direct, random, made}
use Rattle.model.specs.Searches.{Search, rows, TA, BPA, BPA2, NRA}
use Rattle.meeting.specs.declared.Found.{Found}
use Rattle.meeting.specs.Clauses.{Ran}

-- the search of a number
abbrev pub search_at : ℕ → Poses → Query → Search
search_at zero s q = TA s q
search_at (suc zero) s q = BPA s q
search_at (suc (suc zero)) s q = BPA2 s q
search_at (suc (suc (suc which))) s q = NRA s q

-- the search of a number is that of its method
pub search_kept : (which : ℕ) → search_at (method_number (method_of which)) ≡ search_at which
search_kept zero = refl
search_kept (suc zero) = refl
search_kept (suc (suc zero)) = refl
search_kept (suc (suc (suc which))) = refl

-- The row or round at which a search stops, and its accesses until then by kind
pub record Did (s : Poses) (k : ℕ) (r : Search) (d : Found) : Type 0 where
  pub rows_are : d.rows ≡ rows s k r
  pub sorted_are : d.sorted.0 ≡ made sorted (r.accesses d.rows)
  pub direct_are : d.direct.0 ≡ made direct (r.accesses d.rows)
  pub random_are : d.random.0 ≡ made random (r.accesses d.rows)

-- The run of the search of a number: what it has done, and over what was lent the shortlist and the tally
pub record Runs (which : ℕ) (s : Poses) (q : Query) (k : ℕ) (picks₀ lows₀ highs₀ tally₀ : List ℕ) (d : Found) (picks lows highs tally : List ℕ) : Type
    0 where
  pub did : Did s k (search_at which s q) d
  pub ran : Ran s k (search_at which s q) d.rows picks₀ lows₀ highs₀ tally₀ picks lows highs tally
