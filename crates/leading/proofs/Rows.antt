-- Marks from row to row, and within a row from list to list.
--     mark_rises             no mark falls from row to row
--     mark_stays             an item that stands at row p of no list has the same mark after p rows as after p - 1
--     row_met                the item at row p of a list is met then
--     mark_least             a met item's mark is above 0
--     row_mark_most          within row p no mark is above that after the row
--     begun_start, begun_next, begun_whole       the marks before the first list, with one list more, after all of them
-- Assumes nothing.
use mathlib.Core.Path.{◌≡◌, sym, ◌∙◌}
use mathlib.Core.Bool.{true, false, or-false, or-true}
use mathlib.Core.Logic.{◌≢◌}
use mathlib.Core.List.{List}
use Prim.Native.Nat.{ℕ, ◌+◌, ◌-◌, ◌*◌, ◌≤◌, ◌<◌}
use native.Mathlib.Nat.{mul-le-mul_right}
use native.Mathlib.Numerals.{add-one}
use native.Mathlib.Omega.{arith}
use lib.Dec.{eqb, leb}
use lib.ListN.{get_or, set, length-set}
use lib.Seq.{get_or-set_same, get_or-set_other}
use borrow.Author.Tests.{eqb-true, eqb-false, leb-true, leb-false, le-leb, lt-leb}
use Rattle.model.specs.Words.{some_below}
use Rattle.laws.specs.Tests.{by_cases, some_hit, some_found, some_not, some_same}
use Rattle.laws.specs.Overall.{joined_rises, joined_same}
use Rattle.meeting.specs.Clauses.{View, bound_of, read_at, unread}
use Rattle.halting.specs.Clauses.{met_of, mark_of, Marked}
use Rattle.leading.specs.Clauses.{item_at, Rowed, stands, row_mark, Begun}

module _ (v : View) (p d : ℕ) where
  abbrev place : ℕ → ℕ
  place i = get_or v.work (i * v.n + d) 0

  abbrev low_at : ℕ → ℕ → ℕ
  low_at q i = read_at v.n v.scores v.work d q (unread false v.n v.scores q) i

  low_rises : (i : ℕ) → low_at (p - 1) i ≤ low_at p i
  unfolding read_at unread
  low_rises i =
      by_cases (leb (place i) (p - 1))
      (λ (y : leb (place i) (p - 1) ≡ true).
      rw (y, le-leb (place i) p (omega (arith, leb-true (place i) (p - 1) y))) (omega arith))
      (λ (z : leb (place i) (p - 1) ≡ false). rw z (omega arith))

  bound_rises : bound_of v false (p - 1) d ≤ bound_of v false p d
  unfolding bound_of
  bound_rises =
      joined_rises v.rule (λ i. low_at (p - 1) i * get_or v.weights i 0) (λ i. low_at p i * get_or v.weights i 0) v.m
      (λ i _. mul-le-mul_right (get_or v.weights i 0) (low_rises i))

  met_stays : met_of v (p - 1) d ≡ true → met_of v p d ≡ true
  unfolding met_of
  met_stays y =
      let found = some_found (λ i. leb (place i) (p - 1)) v.m y in
      some_hit (λ i. leb (place i) p) v.m found.0 found.1
      (le-leb (place found.0) p (omega (arith, leb-true (place found.0) (p - 1) found.2)))

  pub mark_least : met_of v p d ≡ true → 1 ≤ mark_of v p d
  unfolding mark_of
  mark_least y = rw y (omega arith)

  mark_rises : mark_of v (p - 1) d ≤ mark_of v p d
  unfolding mark_of
  mark_rises =
      by_cases (met_of v (p - 1) d)
      (λ (y : met_of v (p - 1) d ≡ true). rw (y, met_stays y) (omega (arith, bound_rises)))
      (λ (z : met_of v (p - 1) d ≡ false). rw z (omega arith))

  module _ (apart : (i : ℕ) → i < v.m → place i ≢ p) where
    -- its positions tell the same after p rows as after p - 1
    place_stays : (i : ℕ) → i < v.m → leb (place i) (p - 1) ≡ leb (place i) p
    place_stays i h =
        by_cases (leb (place i) p)
        (λ (y : leb (place i) p ≡ true).
        let other = apart i h in
        let before = leb-true (place i) p y in
        rw y (le-leb (place i) (p - 1) (omega arith)))
        (λ (z : leb (place i) p ≡ false). rw z (lt-leb (place i) (p - 1) (omega (arith, leb-false (place i) p z))))

    bound_stays : bound_of v false (p - 1) d ≡ bound_of v false p d
    unfolding bound_of read_at unread
    bound_stays =
        joined_same v.rule (λ i. low_at (p - 1) i * get_or v.weights i 0) (λ i. low_at p i * get_or v.weights i 0) v.m
        (λ i h. rw (place_stays i h))

    mark_stays : mark_of v (p - 1) d ≡ mark_of v p d
    unfolding mark_of met_of
    mark_stays =
        rw (some_same (λ i. leb (place i) (p - 1)) (λ i. leb (place i) p) v.m place_stays, bound_stays)

-- ---- within a row
-- the item at row p of a list is met after p rows, and after any more
pub row_met : {v : View} {items : List ℕ} {p : ℕ} → Rowed v items p → (i q : ℕ) → i < v.m → p ≤ q
    → met_of v q (item_at v items p i) ≡ true
unfolding met_of
row_met {v} {items} {p} rowed i q hi later =
    some_hit (λ j. leb (get_or v.work (j * v.n + item_at v items p i) 0) q) v.m i hi
    (le-leb (get_or v.work (i * v.n + item_at v items p i) 0) q (omega (arith, rowed.item_placed i hi)))

pub row_mark_most : (v : View) (items : List ℕ) (p i d : ℕ) → row_mark v items p i d ≤ mark_of v p d
unfolding row_mark
row_mark_most v items p i d =
    by_cases (stands v items p i d)
    (λ (y : stands v items p i d ≡ true). rw y (omega arith))
    (λ (z : stands v items p i d ≡ false). rw z (mark_rises v p d))

pub begun_start : {v : View} {p : ℕ} {marks : List ℕ} (items : List ℕ) → Marked v (p - 1) marks → Begun v items p 0 marks
unfolding row_mark stands some_below
begun_start items noted = record { marks_long = noted.marks_long; marks_are = noted.marks_are }

module _ {v : View} {items : List ℕ} {p : ℕ} where
  pub begun_next : {marks : List ℕ} (i : ℕ) → item_at v items p i < v.n → Begun v items p i marks
      → Begun v items p (i + 1) (set marks (item_at v items p i) (mark_of v p (item_at v items p i)))
  unfolding row_mark stands some_below
  begun_next {marks} i small begun =
      record {
        marks_long = rw length-set begun.marks_long;
        marks_are = λ d h.
            rw (add-one i)
            (by_cases (eqb (item_at v items p i) d)
            (λ (y : eqb (item_at v items p i) d ≡ true).
            let same : item_at v items p i ≡ d = eqb-true (item_at v items p i) d y in
            rw (y, or-true (stands v items p i d))
            (rw (← same) (get_or-set_same marks (item_at v items p i) (mark_of v p (item_at v items p i)) 0 (omega (arith, begun.marks_long)))))
            (λ (z : eqb (item_at v items p i) d ≡ false).
            let other : item_at v items p i ≢ d = eqb-false (item_at v items p i) d z in
            rw (z, or-false (stands v items p i d))
            (get_or-set_other marks (item_at v items p i) d (mark_of v p (item_at v items p i)) 0 (λ e. other (sym e)) ∙ begun.marks_are d h)));
      }

  pub begun_whole : {marks : List ℕ} → Rowed v items p → Begun v items p v.m marks → Marked v p marks
  unfolding row_mark stands
  begun_whole rowed begun =
      record {
        marks_long = begun.marks_long;
        marks_are = λ d h.
            begun.marks_are d h
            ∙ by_cases (stands v items p v.m d)
            (λ (y : stands v items p v.m d ≡ true). rw y)
            (λ (z : stands v items p v.m d ≡ false).
            rw z
            (mark_stays v p d
            (λ i hi e.
            eqb-false (item_at v items p i) d (some_not (λ j. eqb (item_at v items p j) d) v.m i z hi) (rowed.item_there i d hi h e))));
      }
