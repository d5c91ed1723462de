-- Accesses that are made of whole lookups: an item is visited in all lists or in none.
--     same_place             two items with one place in a list are one item
--     Whole                  every item is visited equally often in every list
--     whole_none, whole_more     so it is with no access, and after one lookup more
--     lookup_at              what a lookup adds at an item's place: one visit if it finds that item
--     met_is                 an item is met exactly when list 1 was visited at its place
--     met_more               after a lookup the item that it found is met too, and no other
--     place_eqb              two items are compared by their places in a list
-- Assumes nothing.
use Rattle.std.specs.Prelude.{◌≡◌, true, false, ◌||◌, List, [], ◌++◌, ℕ, ◌+◌, ◌-◌, ◌<◌, eqb}
use Rattle.std.proofs.Math.Path.{refl, ap}
use Rattle.std.proofs.Common.{sym, ◌∙◌, arith, eqb-true, eq-eqb, ne_eqb, le-leb}
use Rattle.std.proofs.Math.Bool.{or-false, or-true}
use Rattle.std.proofs.Math.Dec.{leb}
use Rattle.std.proofs.lemmas.Bool.{eqb-false}
use Rattle.model.specs.Words.{count}
use Rattle.model.specs.Given.{Poses, item, place}
use Rattle.model.specs.Accesses.{Kind, Access, lookup, times, visited, met}
use Rattle.laws.specs.Tests.{by_cases, some_hit, some_none}
use Rattle.laws.specs.Accepted.{Valid}
use Rattle.laws.specs.Lookups.{once, times_append, lookup_times}

-- Every item is visited equally often in every list
pub record Whole (s : Poses) (tr : List Access) : Type 0 where
  pub alike : (i d : ℕ) → i < s.m → d < s.n → times tr i (place s i d) ≡ times tr 0 (place s 0 d)

module _ (s : Poses) (v : Valid s) where
  pub same_place : (i d e : ℕ) → i < s.m → d < s.n → e < s.n → place s i d ≡ place s i e → d ≡ e
  same_place i d e hi hd he same =
      sym (v.item_of_place i d hi hd) ∙ ap (item s i) same ∙ v.item_of_place i e hi he

  -- two items' places in a list are compared as the items are
  pub place_eqb : (i d e : ℕ) → i < s.m → d < s.n → e < s.n → eqb (place s i d) (place s i e) ≡ eqb d e
  place_eqb i d e hi hd he =
      by_cases (eqb d e)
      (λ (y : eqb d e ≡ true). rw (y, eqb-true d e y) (eq-eqb (place s i e) (place s i e) refl))
      (λ (z : eqb d e ≡ false).
      rw z (ne_eqb (place s i d) (place s i e) (λ same. eqb-false d e z (same_place i d e hi hd he same))))

  -- what a lookup adds at an item's place
  pub lookup_at : (k : Kind) (i p j e : ℕ) → i < s.m → p < s.n → j < s.m → e < s.n
      → times (lookup s k i p) j (place s j e) ≡ once (eqb (item s i p) e)
  lookup_at k i p j e hi hp hj he =
      rw (lookup_times s v k i p j (place s j e) hi hp hj, place_eqb j (item s i p) e hj (v.is_item i p hi hp) he)

  pub whole_none : Whole s []
  unfolding times count
  whole_none = record { alike = λ i d hi hd. refl }

  list_one : 0 < s.m
  list_one = v.size.m_least

  module _ {tr : List Access} (w : Whole s tr) where
    pub whole_more : (k : Kind) (i p : ℕ) → i < s.m → p < s.n → Whole s (tr ++ lookup s k i p)
    whole_more k i p hi hp =
        record {
          alike = λ j d hj hd.
              rw (
                times_append tr (lookup s k i p) j (place s j d),
                times_append tr (lookup s k i p) 0 (place s 0 d),
                lookup_at k i p j d hi hp hj hd,
                lookup_at k i p 0 d hi hp list_one hd,
                w.alike j d hj hd,
              );
        }

    -- an item is met exactly when list 1 was visited at its place
    pub met_is : (d : ℕ) → d < s.n → met s tr d ≡ leb 1 (times tr 0 (place s 0 d))
    unfolding met visited
    met_is d hd =
        by_cases (leb 1 (times tr 0 (place s 0 d)))
        (λ (y : leb 1 (times tr 0 (place s 0 d)) ≡ true).
        rw y (some_hit (λ i. leb 1 (times tr i (place s i d))) s.m 0 list_one y))
        (λ (z : leb 1 (times tr 0 (place s 0 d)) ≡ false).
        rw z
        (some_none (λ i. leb 1 (times tr i (place s i d))) s.m
        (λ i hi. ap (leb 1) (w.alike i d hi hd) ∙ z)))

  -- after a lookup the item that it found is met too, and no other
  pub met_more : {tr : List Access} → Whole s tr → (k : Kind) (i p e : ℕ) → i < s.m → p < s.n → e < s.n
      → met s (tr ++ lookup s k i p) e ≡ (met s tr e || eqb e (item s i p))
  met_more {tr} w k i p e hi hp he =
      rw (
        met_is w e he,
        met_is (whole_more w k i p hi hp) e he,
        times_append tr (lookup s k i p) 0 (place s 0 e),
        lookup_at k i p 0 e hi hp list_one
            he,
      )
      (one_more (times tr 0 (place s 0 e)) (item s i p) e)
    where
      one_more : (x a b : ℕ) → leb 1 (x + once (eqb a b)) ≡ (leb 1 x || eqb b a)
      one_more x a b =
          by_cases (eqb a b)
          (λ (y : eqb a b ≡ true).
          rw (y, eq-eqb b a (sym (eqb-true a b y)), or-true) (le-leb 1 (x + 1) (omega arith)))
          (λ (z : eqb a b ≡ false).
          rw (z, ne_eqb b a (λ e. eqb-false a b z (sym e)), or-false, native.Mathlib.Nat.add-zero x) refl)
