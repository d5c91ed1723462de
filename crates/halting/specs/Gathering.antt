-- The items met, gathered in a slice, each once.
--     first_none, first_more     none is among no entry; one entry more
--     one_more, none_more        a test of the items among these: the next entry passes it too, or does not
--     first_passing              how many of the items among the first entries pass a test
--     listed_count               there are as many entries as items with a mark
--     listed_most, listed_short      at most n; fewer where an item has none
--     listed_reach_is            how many entries have a mark above a bar: how many items
--     listed_front               the entries alone, in a slice of their own
--     gathered_named             there is room for the first entries, and each is an item
--     gathered_start             before any row there is none
--     gathered_again, gathered_new       an item that is among them has a new mark; one that is not comes behind them
-- Assumes nothing.
use Rattle.std.specs.Prelude.{◌≡◌, refl, true, ◌&&◌, ◌||◌, ◌≢◌, List, length, set, replicate}
use Rattle.std.proofs.Math.Path.{sym}
use Rattle.std.proofs.Common.{ap, ◌∙◌, add-one, arith, length-set, get_or-set_same, get_or-set_other}
use Rattle.std.proofs.Math.Bool.{Bool, false, or-false, or-true, and-true, and-false}
use Prim.Native.Nat.{ℕ, zero, suc, ◌+◌, ◌≤◌, ◌<◌}
use Rattle.std.proofs.Math.Dec.{eqb, ltb}
use Rattle.std.proofs.Math.ListN.{get_or, take}
use Rattle.std.proofs.lemmas.List.{length-replicate, length-take, get_or-take}
use borrow.Author.Tests.{eqb-true, eqb-false, lt-ltb, le-ltb, ltb-true}
use Rattle.model.specs.Words.{some_below}
use Rattle.laws.specs.Tests.{by_cases, some_same}
use Rattle.laws.specs.Lists.{zeros_at}
use Rattle.laws.specs.Passing.{passing, passing_most, passing_same, passing_all, passing_none, passing_more}
use Rattle.halting.specs.Clauses.{Named, in_first, Listed, Gathered, listed_reach, reach_of}

pub first_none : (met : List ℕ) (d : ℕ) → in_first met 0 d ≡ false
unfolding in_first some_below
first_none met d = refl

pub first_more : (met : List ℕ) (c d : ℕ) → in_first met (suc c) d ≡ (in_first met c d || eqb d (get_or met c 0))
unfolding in_first some_below
first_more met c d = refl

-- entries past the first c do not matter
first_set : (met : List ℕ) (c at e d : ℕ) → c ≤ at → in_first (set met at e) c d ≡ in_first met c d
unfolding in_first
first_set met c at e d h =
    some_same (λ j. eqb d (get_or (set met at e) j 0)) (λ j. eqb d (get_or met j 0)) c
    (λ j l. ap (eqb d) (get_or-set_other met at j e 0 (λ (x : j ≡ at). omega arith)))

pub one_more : (a b t : Bool) → (b ≡ true → t ≡ true) → ((a || b) && t) ≡ ((a && t) || b)
one_more true true true h = refl
one_more true true false h = h refl
one_more true false true h = refl
one_more true false false h = refl
one_more false true true h = refl
one_more false true false h = h refl
one_more false false t h = refl

pub none_more : (a b t : Bool) → (b ≡ true → t ≡ false) → ((a || b) && t) ≡ (a && t)
none_more true b t h = refl
none_more false true t h = h refl
none_more false false t h = refl

module _ {n : ℕ} {marks met : List ℕ} {count : ℕ} (g : Listed n marks met count) where
  pub first_passing : (t : ℕ → Bool) (c : ℕ) → c ≤ count
      → passing (λ d. in_first met c d && t d) n ≡ passing (λ j. t (get_or met j 0)) c
  unfolding passing
  first_passing t zero h = passing_none (λ d. in_first met 0 d && t d) n (λ d _. rw (first_none met d))
  first_passing t (suc c) h =
      let e = get_or met c 0 in
      let before = first_passing t c (omega arith) in
      let new : in_first met c e ≡ false = g.once_each c h in
      by_cases (t e)
      (λ (y : t e ≡ true).
      rw (y, ← before)
      (passing_more (λ d. in_first met c d && t d) (λ d. in_first met (suc c) d && t d) n e (g.items_small c h) (rw new)
      (λ d _. rw (first_more met c d)
      (one_more (in_first met c d) (eqb d e) (t d) (λ (x : eqb d e ≡ true). rw (eqb-true d e x) y)))
      ∙ omega arith))
      (λ (z : t e ≡ false).
      rw (z, ← before)
      (passing_same (λ d. in_first met (suc c) d && t d) (λ d. in_first met c d && t d) n
      (λ d _. rw (first_more met c d)
      (none_more (in_first met c d) (eqb d e) (t d) (λ (x : eqb d e ≡ true). rw (eqb-true d e x) z)))
      ∙ omega arith))

  pub listed_count : count ≡ reach_of n marks 0
  unfolding reach_of
  listed_count =
      sym (passing_all (λ j. true) count (λ j _. refl))
      ∙ sym (first_passing (λ d. true) count (omega arith))
      ∙ passing_same (λ d. in_first met count d && true) (λ d. ltb 0 (get_or marks d 0)) n
      (λ d hd. and-true (in_first met count d) ∙ g.met_are d hd)

  pub listed_most : count ≤ n
  unfolding reach_of
  listed_most = omega (arith, listed_count, passing_most (λ d. ltb 0 (get_or marks d 0)) n)

  pub listed_short : (d : ℕ) → d < n → get_or marks d 0 ≡ 0 → count < n
  unfolding reach_of
  listed_short d hd none =
      let t : ℕ → Bool = λ x. ltb 0 (get_or marks x 0) in
      let u : ℕ → Bool = λ x. t x || eqb x d in
      omega (arith, listed_count, passing_more t u n d hd (rw none (le-ltb 0 0 (omega arith))) (λ x _. refl), passing_most u n)

  pub listed_reach_is : (bar : ℕ) → listed_reach count marks met bar ≡ reach_of n marks bar
  unfolding listed_reach reach_of
  listed_reach_is bar =
      let t : ℕ → Bool = λ d. ltb bar (get_or marks d 0) in
      sym (first_passing t count (omega arith))
      ∙ passing_same (λ d. in_first met count d && t d) t n
      (λ d hd.
      by_cases (t d)
      (λ (y : t d ≡ true).
      rw (y, g.met_are d hd) (and-true (ltb 0 (get_or marks d 0)) ∙ lt-ltb 0 (get_or marks d 0) (omega (arith, ltb-true bar (get_or marks d 0) y))))
      (λ (z : t d ≡ false). rw z (and-false (in_first met count d))))

-- entries past the first c may be cut off
first_taken : (met : List ℕ) (c count d : ℕ) → c ≤ count → in_first (take count met) c d ≡ in_first met c d
unfolding in_first
first_taken met c count d h =
    some_same (λ j. eqb d (get_or (take count met) j 0)) (λ j. eqb d (get_or met j 0)) c
    (λ j l. ap (eqb d) (get_or-take count met j 0 (omega arith)))

pub listed_front : {n : ℕ} {marks met : List ℕ} {count : ℕ} → Listed n marks met count → Listed n marks (take count met) count
listed_front {n} {marks} {met} {count} g =
    record {
      items_small = λ j h. rw (get_or-take count met j 0 h) (g.items_small j h);
      met_are = λ d hd. first_taken met count count d (omega arith) ∙ g.met_are d hd;
      once_each = λ j h.
          rw (get_or-take count met j 0 h) (first_taken met j count (get_or met j 0) (omega arith) ∙ g.once_each j h);
    }

pub gathered_named : {n : ℕ} {marks met : List ℕ} {count : ℕ} → Gathered n marks met count
    → (c : ℕ) → c ≤ count → (c ≤ length met) × Named n (take c met)
gathered_named {n} {marks} {met} {count} g c h =
    let room : c ≤ length met = omega (arith, listed_most g.listed, g.met_long) in
    let cut : length (take c met) ≤ c = omega (arith, length-take c met) in (
      room,
      record { items_small = λ j l. rw (get_or-take c met j 0 (omega arith)) (g.listed.items_small j (omega arith)) },
    )

pub gathered_start : (n : ℕ) → n ≤ 1024 → Gathered n (replicate 1024 0) (replicate 1024 0) 0
gathered_start n most =
    record {
      met_long = omega (arith, length-replicate {A = ℕ} 1024 0);
      listed = record {
        items_small = λ j h. absurd (omega arith);
        met_are = λ d _. first_none (replicate 1024 0) d ∙ sym (rw (zeros_at 1024 d) (le-ltb 0 0 (omega arith)));
        once_each = λ j h. absurd (omega arith);
      };
    }

-- ---- item d has a new mark
module _ {n d new count : ℕ} {marks met : List ℕ} (long : n ≤ length marks) (small : d < n) (some : 1 ≤ new)
    (g : Gathered n marks met count) where
  -- whether an item has a mark then
  marked_then : (x : ℕ) → ltb 0 (get_or (set marks d new) x 0) ≡ (ltb 0 (get_or marks x 0) || eqb x d)
  marked_then x =
      by_cases (eqb x d)
      (λ (y : eqb x d ≡ true).
      let here : x ≡ d = eqb-true x d y in
      rw (y, or-true (ltb 0 (get_or marks x 0)), here, get_or-set_same marks d new 0 (omega arith)) (lt-ltb 0 new (omega arith)))
      (λ (z : eqb x d ≡ false).
      rw (z, or-false (ltb 0 (get_or marks x 0)), get_or-set_other marks d x new 0 (eqb-false x d z)))

  pub gathered_again : 0 < get_or marks d 0 → Gathered n (set marks d new) met count
  gathered_again known =
      record {
        met_long = g.met_long;
        listed = record {
          items_small = g.listed.items_small;
          met_are = λ x hx.
              g.listed.met_are x hx
              ∙ sym (marked_then x ∙ by_cases (eqb x d)
              (λ (y : eqb x d ≡ true). rw (y, eqb-true x d y, lt-ltb 0 (get_or marks d 0) known))
              (λ (z : eqb x d ≡ false). rw z (or-false (ltb 0 (get_or marks x 0)))));
          once_each = g.listed.once_each;
        };
      }

  module _ (none : get_or marks d 0 ≡ 0) where
    abbrev met' : List ℕ
    met' = set met count d

    pub gathered_room : count < length met
    gathered_room = omega (arith, listed_short g.listed d small none, g.met_long)

    at_end : get_or met' count 0 ≡ d
    at_end = get_or-set_same met count d 0 gathered_room

    pub gathered_new : Gathered n (set marks d new) met' (count + 1)
    gathered_new =
        rw (add-one count)
        (record {
          met_long = rw (length-set met count d) g.met_long;
          listed = record {
            items_small = λ j h.
                by_cases (eqb j count)
                (λ (y : eqb j count ≡ true). rw (eqb-true j count y, at_end) small)
                (λ (z : eqb j count ≡ false).
                let apart : j ≢ count = eqb-false j count z in
                rw (get_or-set_other met count j d 0 apart) (g.listed.items_small j (omega arith)));
            met_are = λ x hx.
                rw (first_more met' count x, at_end, first_set met count count d x (omega arith), g.listed.met_are x hx) (sym (marked_then x));
            once_each = λ j h.
                by_cases (eqb j count)
                (λ (y : eqb j count ≡ true).
                rw (eqb-true j count y, at_end, first_set met count count d d (omega arith), g.listed.met_are d small, none) (le-ltb 0 0 (omega arith)))
                (λ (z : eqb j count ≡ false).
                let apart : j ≢ count = eqb-false j count z in
                rw (get_or-set_other met count j d 0 apart, first_set met j count d (get_or met j 0) (omega arith)) (g.listed.once_each j (omega arith)));
          };
        })
