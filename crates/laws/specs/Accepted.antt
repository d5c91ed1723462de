-- What an accepted pose set keeps, and what its work slice holds.
--     Sized, sized, size_fits     the sizes that test 1 lets pass, and m x n of them
--     Valid            sizes and lengths; each entry is an item; place and item undo each other; each item has a place; scores
--                      never rise over any distance
--     valid            a pose set that the list check accepts is valid
--     Placed, placed   the work slice holds each item's position in each list, from one
--     Passed, passed   the three tests at a position, once they are passed
--     list_distinct, stands, noted_place     of one list that passes: its items are distinct, each stands at its place, its note is that
--     falls_by_one     and no score is above the one before it
-- Assumes nothing.
use Rattle.std.specs.Prelude.{◌≡◌, refl, not, ◌&&◌, List, leb, length, get_or}
use Rattle.std.proofs.Common.{sym, ◌∙◌, ⊎_elim, eq-or-lt_of_le, mul-le-mul, arith}
use Rattle.std.proofs.Math.Bool.{Bool, false}
use Prim.Native.Nat.{ℕ, zero, suc, ◌+◌, ◌-◌, ◌*◌, ◌≤◌, ◌<◌}
use Rattle.std.proofs.Math.Numerals.{sub-one}
use Rattle.std.proofs.Math.Dec.{eqb, ltb}
use borrow.Author.Tests.{eqb-true, eq-eqb, leb-true, leb-false, ltb-false, lt-ltb, not-false}
use Rattle.model.specs.Words.{first, over, within}
use Rattle.model.specs.Given.{Poses, item, score, place}
use Rattle.model.specs.Refusals.{Verdict, accepted, refused, ◌when◌, ◌then◌, wrong_size, short, no_lists, not_item, stood_earlier, rises, standing, fault, in_list, in_lists, check_shape, check_verdict}
use Rattle.model.specs.Answers.{places}
use Rattle.laws.specs.Tests.{or_no, and_yes, some_not, first_within, first_passes, first_is}
use Rattle.laws.specs.Lists.{table_length, table_at, table_room, over_length, over_at}
use Rattle.laws.specs.Verdicts.{accepted≢refused, when_passes, then_first, then_second, first_refusal_none}
use Rattle.laws.specs.Marks.{noted, Distinct, each_found, noted_last}

-- The sizes that test 1 lets pass
pub record Sized (m n : ℕ) : Type 0 where
  pub m_least : 1 ≤ m
  pub m_most : m ≤ 8
  pub n_least : 1 ≤ n
  pub n_most : n ≤ 1024

within_parts : (a b x : ℕ) → not (within a b x) ≡ false → (a ≤ x) × (x ≤ b)
within_parts a b x e =
    let p = and_yes (leb a x) (leb x b) (not-false (within a b x) e) in
    (leb-true a x p.0, leb-true x b p.1)

pub sized : (m n : ℕ) → wrong_size m n ≡ false → Sized m n
unfolding wrong_size
sized m n e =
    let p = or_no (not (within 1 8 m)) (not (within 1 1024 n)) e in
    let a = within_parts 1 8 m p.0 in
    let b = within_parts 1 1024 n p.1 in
    record { m_least = a.0; m_most = a.1; n_least = b.0; n_most = b.1 }

-- m x n of such sizes
pub size_fits : {m n : ℕ} → Sized m n → m * n ≤ 8192
size_fits z = mul-le-mul z.m_most z.n_most

pub long : (size : ℕ) (l : List ℕ) → short size l ≡ false → size ≤ length l
unfolding short
long size l e = ltb-false (length l) size e

-- The tests 7, 8, 9 at position p of list i, once they are passed
pub record Passed (s : Poses) (i p : ℕ) : Type 0 where
  pub is_item : item s i p < s.n
  pub is_new : stood_earlier s i p ≡ false
  pub not_rising : rises s i p ≡ false

standing_passes : (i p : ℕ) (v : Verdict) → standing i p v ≡ accepted → v ≡ accepted
unfolding standing
standing_passes i p accepted e = refl
standing_passes i p (refused x j q) e = absurd (accepted≢refused (sym e))

-- of a list that passes, each position does
pub passed : (s : Poses) (i p : ℕ) → in_list s i ≡ accepted → p < s.n → Passed s i p
unfolding in_list fault not_item
passed s i p e hp =
    let seven = 7 when not_item s i p in
    let eight = 8 when stood_earlier s i p in
    let nine = 9 when rises s i p in
    let all = standing_passes i p (seven then eight then nine) (first_refusal_none (fault s i) s.n p e hp) in
    let later = then_second seven (eight then nine) all in
    record {
      is_item = leb-false s.n (item s i p) (when_passes 7 (not_item s i p) (then_first seven (eight then nine) all));
      is_new = when_passes 8 (stood_earlier s i p) (then_first eight nine later);
      not_rising = when_passes 9 (rises s i p) (then_second eight nine later);
    }

-- What an accepted pose set keeps
pub record Valid (s : Poses) : Type 0 where
  pub size : Sized s.m s.n
  pub items_long : s.m * s.n ≤ length s.items
  pub scores_long : s.m * s.n ≤ length s.scores
  pub is_item : (i p : ℕ) → i < s.m → p < s.n → item s i p < s.n
  pub place_of_item : (i p : ℕ) → i < s.m → p < s.n → place s i (item s i p) ≡ p
  pub has_place : (i d : ℕ) → i < s.m → d < s.n → place s i d < s.n
  pub item_of_place : (i d : ℕ) → i < s.m → d < s.n → item s i (place s i d) ≡ d
  pub falls : (i p q : ℕ) → i < s.m → p ≤ q → q < s.n → score s i q ≤ score s i p

module _ (s : Poses) (i : ℕ) (e : in_list s i ≡ accepted) where
  -- its items are distinct
  pub list_distinct : Distinct (item s i) s.n s.n
  unfolding stood_earlier
  list_distinct = record { small = λ q l. (passed s i q e l).is_item; new = λ q l. (passed s i q e l).is_new }

  -- the item at a position stands at no earlier one
  item_stands_once : (p : ℕ) → p < s.n → place s i (item s i p) ≡ p
  unfolding place
  item_stands_once p hp =
      first_is (λ q. eqb (item s i q) (item s i p)) s.n 0 p (omega arith) (omega arith) (eq-eqb (item s i p) (item s i p) refl)
      (λ r _ l. some_not (λ q. eqb (item s i q) (item s i p)) p r (list_distinct.new p hp) l)

  -- each item stands at its place
  pub stands : (d : ℕ) → d < s.n → (place s i d < s.n) × (item s i (place s i d) ≡ d)
  unfolding place
  stands d hd =
      let t : ℕ → Bool = λ q. eqb (item s i q) d in
      let at = each_found (item s i) s.n d list_distinct hd in
      let reached = first_within t s.n 0 at.0 (omega arith) (eq-eqb (item s i at.0) d at.2) in
      let inside : first t s.n 0 < s.n = omega (arith, at.1, reached) in
      (inside, eqb-true (item s i (first t s.n 0)) d (first_passes t s.n 0 (omega arith)))

  -- once all positions are noted, an item's note is its place, from one
  pub noted_place : (d : ℕ) → d < s.n → noted (item s i) s.n d ≡ place s i d + 1
  noted_place d hd =
      let at = stands d hd in
      noted_last (item s i) s.n (place s i d) d list_distinct at.0 at.1

  -- a score is at most the one before it, and so at most any before it
  pub falls_by_one : (p : ℕ) → suc p < s.n → score s i (suc p) ≤ score s i p
  unfolding rises
  falls_by_one p hp =
      let r : (ltb 0 (suc p) && ltb (score s i (suc p - 1)) (score s i (suc p))) ≡ false = (passed s i (suc p) e hp).not_rising in
      let r' : ltb (score s i p) (score s i (suc p)) ≡ false = rw (lt-ltb 0 (suc p) (omega arith), sub-one (suc p)) at r in
      ltb-false (score s i p) (score s i (suc p)) r'

  falls_over : (p q : ℕ) → p ≤ q → q < s.n → score s i q ≤ score s i p
  falls_over p zero l h = let p_zero : p ≡ 0 = omega arith in rw p_zero (omega arith)
  falls_over p (suc q) l h =
      ⊎_elim
      (λ (x : p ≡ suc q). rw x (omega arith))
      (λ (k : p < suc q). omega (arith, falls_over p q (omega arith) (omega arith), falls_by_one q h))
      (eq-or-lt_of_le l)

-- a pose set that passes the list check is valid
pub valid : (s : Poses) (work : List ℕ) → check_verdict s work ≡ accepted → Valid s
unfolding check_verdict check_shape no_lists in_lists
valid s work e =
    let shape = then_first (check_shape s work) (in_lists s) e in
    let all = then_second (check_shape s work) (in_lists s) e in
    let list : (i : ℕ) → i < s.m → in_list s i ≡ accepted = λ i hi. first_refusal_none (in_list s) s.m i all hi in
    let one = 1 when wrong_size s.m s.n in
    let five = 5 when no_lists s in
    let six = 6 when short (s.m * s.n) work in
    let rooms = when_passes 5 (no_lists s) (then_first five six (then_second one (five then six) shape)) in
    let both = or_no (short (s.m * s.n) s.items) (short (s.m * s.n) s.scores) rooms in
    record {
      size = sized s.m s.n (when_passes 1 (wrong_size s.m s.n) (then_first one (five then six) shape));
      items_long = long (s.m * s.n) s.items both.0;
      scores_long = long (s.m * s.n) s.scores both.1;
      is_item = λ i p hi hp. (passed s i p (list i hi) hp).is_item;
      place_of_item = λ i p hi hp. item_stands_once s i (list i hi) p hp;
      has_place = λ i d hi hd. (stands s i (list i hi) d hd).0;
      item_of_place = λ i d hi hd. (stands s i (list i hi) d hd).1;
      falls = λ i p q hi l h. falls_over s i (list i hi) p q l h;
    }

-- and its work slice is long enough
pub work_long : (s : Poses) (work : List ℕ) → check_verdict s work ≡ accepted → s.m * s.n ≤ length work
unfolding check_verdict check_shape
work_long s work e =
    let one = 1 when wrong_size s.m s.n in
    let five = 5 when no_lists s in
    let six = 6 when short (s.m * s.n) work in
    let shape = then_first (check_shape s work) (in_lists s) e in
    long (s.m * s.n) work
    (when_passes 6 (short (s.m * s.n) work) (then_second five six (then_second one (five then six) shape)))

-- What the work slice holds: at i * n + d, item d's position in list i, from one
pub record Placed (s : Poses) (work : List ℕ) : Type 0 where
  pub places_long : s.m * s.n ≤ length work
  pub position_at : (i d : ℕ) → i < s.m → d < s.n → get_or work (i * s.n + d) 0 ≡ place s i d + 1

pub placed : (s : Poses) (lent : List ℕ) → s.m * s.n ≤ length lent → Placed s (over (places s) lent)
unfolding places
placed s lent h =
    let f : ℕ → ℕ → ℕ = λ i d. place s i d + 1 in
    let size = table_length f s.n s.m in
    record {
      places_long = omega (arith, over_length (places s) lent (omega arith), size);
      position_at = λ i d hi hd.
          over_at (places s) lent (i * s.n + d) 0 (omega (arith, size, table_room i s.m s.n hi))
          ∙ table_at f s.n s.m i d 0 hi hd;
    }
