-- All lists at once: where no entry is n or more, no score rises and no place is left empty, all lists pass.
--     all_small              where the greatest is below n, each entry is an item
--     all_pass               what `note_whole` promises where it answers true
--     not_great, not_rising, not_empty       where all lists pass, no sweep finds anything
-- Assumes nothing.
use mathlib.Core.Path.{◌≡◌, refl, sym, ◌∙◌}
use mathlib.Core.Bool.{true, false}
use mathlib.Core.List.{List}
use Prim.Native.Nat.{ℕ, zero, suc, ◌+◌, ◌-◌, ◌*◌, ◌≤◌, ◌<◌}
use native.Mathlib.Numerals.{sub-one}
use native.Mathlib.Omega.{arith}
use lib.Dec.{eqb, ltb}
use lib.ListN.{length, get_or, take}
use lib.Seq.{length-take-le, get_or-take}
use borrow.Author.Tests.{eqb-true, ltb-true, ltb-false, lt-leb, lt-ltb, le-ltb}
use Rattle.model.specs.Words.{some_below, table}
use Rattle.model.specs.Given.{Poses, item, score, place}
use Rattle.model.specs.Refusals.{accepted, not_item, stood_earlier, rises, standing, fault, in_list, in_lists}
use Rattle.model.specs.Answers.{places}
use Rattle.laws.specs.Tests.{some_found, some_not}
use Rattle.laws.specs.Lists.{table_length, table_at, table_room, table_same, place_of}
use Rattle.laws.specs.Verdicts.{first_refusal_all, first_refusal_none}
use Rattle.laws.specs.Marks.{noted, all_noted}
use Rattle.laws.specs.Accepted.{passed, noted_place, falls_by_one}
use Rattle.sweeps.specs.Clauses.{Greatest}
use Rattle.passing.specs.Clauses.{Rising, Swept}

-- no score is above the one before it
never_rises : (s : Poses) (i : ℕ) → ((p : ℕ) → suc p < s.n → score s i (suc p) ≤ score s i p) → (p : ℕ) → p < s.n
    → rises s i p ≡ false
unfolding rises
never_rises s i falls zero l = refl
never_rises s i falls (suc p) l =
    rw (lt-ltb 0 (suc p) (omega arith), sub-one (suc p)) (le-ltb (score s i p) (score s i (suc p)) (falls p l))

-- n items below n that leave no place empty, under scores that never rise
passes : (s : Poses) (i : ℕ) → ((p : ℕ) → p < s.n → item s i p < s.n)
    → ((p : ℕ) → suc p < s.n → score s i (suc p) ≤ score s i p)
    → ((d : ℕ) → d < s.n → eqb (noted (item s i) s.n d) 0 ≡ false) → in_list s i ≡ accepted
unfolding in_list fault not_item standing stood_earlier
passes s i small falls every =
    let distinct = all_noted (item s i) s.n small every in
    first_refusal_all (fault s i) s.n
    (λ p l. rw (lt-leb s.n (item s i p) (small p l), distinct.new p l, never_rises s i falls p l))

module _ (s : Poses) where
  -- where the greatest is below n, each entry is an item
  pub all_small : {most : ℕ} → s.m * s.n ≤ length s.items → Greatest (take (s.m * s.n) s.items) most → most < s.n
      → (i p : ℕ) → i < s.m → p < s.n → item s i p < s.n
  unfolding item
  all_small {most} long found below i p hi hp =
      let size = s.m * s.n in
      let here : i * s.n + p < size = omega (arith, table_room i s.m s.n hi) in
      let none = sym (found.above most) ∙ le-ltb most most (omega arith) in
      let not_above =
      some_not (λ q. ltb most (get_or (take size s.items) q 0)) (length (take size s.items)) (i * s.n + p) none
      (rw (length-take-le size s.items long) here) in
      omega (arith, ltb-false most (get_or s.items (i * s.n + p) 0) (rw (get_or-take size s.items (i * s.n + p) 0 here) at not_above))

  pub all_pass : {after : List ℕ} → ((i p : ℕ) → i < s.m → p < s.n → item s i p < s.n) → Swept s after
      → some_below (λ q. eqb (get_or after q 0) 0) (length after) ≡ false → (in_lists s ≡ accepted) × (after ≡ places s)
  unfolding in_lists places
  all_pass {after} small swept none_empty =
      let notes : ℕ → ℕ → ℕ = λ i. noted (item s i) s.n in
      let long : length after ≡ s.m * s.n = rw swept.notes (table_length notes s.n s.m) in
      let every : (i d : ℕ) → i < s.m → d < s.n → eqb (notes i d) 0 ≡ false = λ i d hi hd.
      let here : i * s.n + d < length after = rw long (omega (arith, table_room i s.m s.n hi)) in
      rw (← (table_at notes s.n s.m i d 0 hi hd), ← swept.notes)
      (some_not (λ q. eqb (get_or after q 0) 0) (length after) (i * s.n + d) none_empty here) in
      let each : (i : ℕ) → i < s.m → in_list s i ≡ accepted = λ i hi.
      passes s i (λ p. small i p hi) (λ p. swept.falls i p hi) (λ d. every i d hi) in (
        first_refusal_all (in_list s) s.m each,
        swept.notes ∙ table_same notes (λ i d. place s i d + 1) s.n s.m (λ i d hi hd. noted_place s i (each i hi) d hd),
      )

  -- where all lists pass, no sweep finds anything
  module _ (all : in_lists s ≡ accepted) where
    each_passes : (i : ℕ) → i < s.m → in_list s i ≡ accepted
    unfolding in_lists
    each_passes i hi = first_refusal_none (in_list s) s.m i all hi

    pub not_great : {most : ℕ} → 1 ≤ s.n → s.m * s.n ≤ length s.items → Greatest (take (s.m * s.n) s.items) most
        → s.n ≤ most → ⊥
    unfolding item
    not_great {most} some long found great =
        let size = s.m * s.n in
        let bar = s.n - 1 in
        let there = some_found (λ q. ltb bar (get_or (take size s.items) q 0)) (length (take size s.items))
        (sym (found.above bar) ∙ lt-ltb bar most (omega arith)) in
        let q = there.0 in
        let inside : q < size = omega (arith, there.1, length-take-le size s.items long) in
        let where_it_is = place_of s.n s.m q inside in
        let i = where_it_is.0 in
        let p = where_it_is.1 in
        let at : q ≡ i * s.n + p = where_it_is.4 in
        let above : bar < get_or s.items q 0 =
        rw (get_or-take size s.items q 0 inside) at (ltb-true bar (get_or (take size s.items) q 0) there.2) in
        omega (arith, rw at at above, (passed s i p (each_passes i where_it_is.2) where_it_is.3).is_item)

    pub not_rising : Rising s → ⊥
    not_rising up =
        omega (arith, up.above, falls_by_one s up.list (each_passes up.list up.list_small) up.position up.inside)

    pub not_empty : {after : List ℕ} → Swept s after → some_below (λ q. eqb (get_or after q 0) 0) (length after) ≡ true → ⊥
    not_empty {after} swept some =
        let notes : ℕ → ℕ → ℕ = λ i. noted (item s i) s.n in
        let long : length after ≡ s.m * s.n = rw swept.notes (table_length notes s.n s.m) in
        let there = some_found (λ q. eqb (get_or after q 0) 0) (length after) some in
        let q = there.0 in
        let where_it_is = place_of s.n s.m q (omega (arith, there.1, long)) in
        let i = where_it_is.0 in
        let d = where_it_is.1 in
        let empty : get_or (table notes s.n s.m) (i * s.n + d) 0 ≡ 0 =
        rw (← where_it_is.4, ← swept.notes) (eqb-true (get_or after q 0) 0 there.2) in
        let noted_here = table_at notes s.n s.m i d 0 where_it_is.2 where_it_is.3 in
        omega (arith, empty, noted_here, noted_place s i (each_passes i where_it_is.2) d where_it_is.3)
