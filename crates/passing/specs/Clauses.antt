-- The records that the contracts of `passing` cite.
--     Within         what `note_whole` asks of the lists: they lie within both slices
--     WholeNoted     what it promises: whether all lists pass, and where they do each item's position in each
--     Sweepable      what the sweeps list by list ask: every entry is an item, and nothing is noted yet
--     Rising, Swept      a list in which a score is above the one before it; no such list, and the items noted
--     RowsSwept      what the sweeps list by list promise: the one or the other
-- Assumes nothing.
use Rattle.std.specs.Prelude.{◌≡◌, Bool, true, false, List, ℕ, suc, ◌*◌, ◌≤◌, ◌<◌, length, replicate}
use Rattle.model.specs.Words.{table}
use Rattle.model.specs.Given.{Poses, item, score}
use Rattle.model.specs.Refusals.{accepted, in_lists}
use Rattle.model.specs.Answers.{places}
use Rattle.laws.specs.Marks.{noted}

-- m lists of n entries lie within both slices
pub record Within (s : Poses) : Type 0 where
  pub m_most : s.m ≤ 8
  pub n_least : 1 ≤ s.n
  pub n_most : s.n ≤ 1024
  pub items_long : s.m * s.n ≤ length s.items
  pub scores_long : s.m * s.n ≤ length s.scores

-- Whether all lists pass; where they do, each item's position in each list is noted
pub record WholeNoted (s : Poses) (r : Bool) (after : List ℕ) : Type 0 where
  pub passes : r ≡ true → in_lists s ≡ accepted
  pub damaged : r ≡ false → in_lists s ≡ accepted → ⊥
  pub notes : r ≡ true → after ≡ places s

-- Such lists, of whose entries each is an item, and a place for each item in each list, at which nothing is noted yet
pub record Sweepable (s : Poses) (lent : List ℕ) : Type 0 where
  pub within : Within s
  pub small : (i p : ℕ) → i < s.m → p < s.n → item s i p < s.n
  pub empty : lent ≡ replicate (s.m * s.n) 0

-- A score of a list that is above the one before it
pub record Rising (s : Poses) : Type 0 where
  pub list : ℕ
  pub position : ℕ
  pub list_small : list < s.m
  pub inside : suc position < s.n
  pub above : score s list position < score s list (suc position)

-- In no list a score is above the one before it, and each list's items are noted in its own row
pub record Swept (s : Poses) (after : List ℕ) : Type 0 where
  pub falls : (i p : ℕ) → i < s.m → suc p < s.n → score s i (suc p) ≤ score s i p
  pub notes : after ≡ table (λ i. noted (item s i) s.n) s.n s.m

-- Whether a list has such a score; where none has, the items are noted
pub record RowsSwept (s : Poses) (r : Bool) (after : List ℕ) : Type 0 where
  pub rising : r ≡ true → Rising s
  pub swept : r ≡ false → Swept s after
