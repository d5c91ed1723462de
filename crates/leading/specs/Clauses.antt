-- The records that the contracts of `leading` cite.
--     Leading        each item's mark after p rows, the k greatest of them, and the items met
--     item_at, Rowed  the item at row p of a list; what these items are
--     ReadableRow    what reading a row asks, apart from the marks
--     stands, row_mark, Begun     an item stands at row p of one of the first i lists; its mark, and every item's, once these lists' row p is read
--     Partway        what is kept then
--     IsSameLedger   a ledger's slices are the ones that were lent, as long as they were
-- Assumes nothing.
use Rattle.std.specs.Prelude.{◌≡◌, Bool, cond, List, ℕ, ◌+◌, ◌-◌, ◌*◌, ◌≤◌, ◌<◌, eqb, length, get_or}
use Rattle.model.specs.Words.{some_below}
use Rattle.meeting.specs.Clauses.{View}
use Rattle.halting.specs.Clauses.{mark_of, Marked, Gathered}
use Rattle.raising.specs.Clauses.{Led}
use Rattle.leading.specs.declared.Ledger.{Ledger}

-- After p rows: each item's mark, the k greatest of them, and the items met, `count` of them
pub record Leading (v : View) (p k : ℕ) (marks tops met : List ℕ) (count : ℕ) : Type 0 where
  pub marked : Marked v p marks
  pub led : Led v.n k marks tops
  pub gathered : Gathered v.n marks met count

-- the item at row p of list i
abbrev pub item_at : View → List ℕ → ℕ → ℕ → ℕ
item_at v items p i = get_or items (i * v.n + p - 1) 0

-- At row p of each list stands an item, the one whose position the work slice says is p
pub record Rowed (v : View) (items : List ℕ) (p : ℕ) : Type 0 where
  pub items_long : v.m * v.n ≤ length items
  pub item_small : (i : ℕ) → i < v.m → item_at v items p i < v.n
  pub item_placed : (i : ℕ) → i < v.m → get_or v.work (i * v.n + item_at v items p i) 0 ≡ p
  pub item_there : (i d : ℕ) → i < v.m → d < v.n → get_or v.work (i * v.n + d) 0 ≡ p → item_at v items p i ≡ d

-- What reading row p asks, apart from the marks
pub record ReadableRow (v : View) (items : List ℕ) (p k : ℕ) : Type 0 where
  pub row_least : 1 ≤ p
  pub row_most : p ≤ v.n
  pub rowed : Rowed v items p
  pub k_least : 1 ≤ k

-- ---- a row, list by list
-- item d stands at row p of one of the first i lists
unfoldable pub stands : View → List ℕ → ℕ → ℕ → ℕ → Bool
stands v items p i d = some_below (λ j. eqb (item_at v items p j) d) i

-- item d's mark once row p of the first i lists is read
unfoldable pub row_mark : View → List ℕ → ℕ → ℕ → ℕ → ℕ
row_mark v items p i d = cond (stands v items p i d) (mark_of v p d) (mark_of v (p - 1) d)

-- Each item's mark then
pub record Begun (v : View) (items : List ℕ) (p i : ℕ) (marks : List ℕ) : Type 0 where
  pub marks_long : v.n ≤ length marks
  pub marks_are : (d : ℕ) → d < v.n → get_or marks d 0 ≡ row_mark v items p i d

-- What is kept once row p of the first i lists is read: each item's mark then, the k greatest of them, and the items met
pub record Partway (v : View) (items : List ℕ) (p i k : ℕ) (marks tops met : List ℕ) (count : ℕ) : Type 0 where
  pub begun : Begun v items p i marks
  pub led : Led v.n k marks tops
  pub gathered : Gathered v.n marks met count

-- The slices are the ones that were lent, whatever stands in them by now
pub record IsSameLedger (a b : Ledger) : Type 0 where
  pub marks_same : b.marks.ghost_name ≡ a.marks.ghost_name
  pub tops_same : b.tops.ghost_name ≡ a.tops.ghost_name
  pub met_same : b.met.ghost_name ≡ a.met.ghost_name
  pub marks_long : length b.marks.now ≡ length a.marks.now
  pub tops_long : length b.tops.now ≡ length a.tops.now
  pub met_long : length b.met.now ≡ length a.met.now
