-- Laws of `insert` and `ranked`, for any order of the items.
--     among_at, among_found              an entry is among its list; where an item among a list stands
--     insert_length, insert_count, insert_among      what an insertion adds
--     insert_seat, insert_at             where the item goes; the same found from the end of a list in the order
--     take_insert                        the first k entries of the result need the first k entries only
--     insert_same, insert_insert         two orders that agree; two insertions in either order
--     Sorted, Leads                      each entry stands before every later one; an item stands before every entry
--     sorted_cons, sorted_head, sorted_tail, sorted_take     a list in the order by its parts
--     sorted_once, insert_sorted         no item twice; an insertion keeps the order
--     ranked_length, ranked_count        how many items are ranked; how many of them pass a further test
--     ranked_none                        no item passes: none is ranked
--     ranked_among, ranked_sorted, ranked_once       which items are ranked; in the order; none twice
--     ranked_same, ranked_more           equal tests; one item more
-- Assumes nothing.
use Rattle.std.specs.Prelude.{◌≡◌, Bool, cond, ◌&&◌, ◌||◌, ◌≢◌, ltb, length, get_or, take, drop}
use Rattle.std.proofs.Math.Path.{refl}
use Rattle.std.proofs.Common.{sym, ap, ◌∙◌, not-suc-le-zero, le_of_suc-le-suc, arith, length-take, take-take, get_or-take}
use Rattle.std.proofs.Math.Bool.{true, false, or-false, or-true, and-false, true≢false}
use Rattle.std.proofs.lemmas.Bool.{false≢true}
use mathlib.Core.List.{List, [], ◌∷◌, ◌++◌}
use Prim.Native.Nat.{ℕ, zero, suc, ◌+◌, ◌-◌, ◌≤◌, ◌<◌}
use Rattle.std.proofs.Math.Dec.{eqb}
use borrow.Author.Tests.{eqb-true, eqb-false, eq-eqb, ne_eqb, ltb-true, ltb-false, lt-ltb, le-ltb}
use Rattle.model.specs.Words.{count}
use Rattle.model.specs.Searches.{insert, ranked, among}
use Rattle.laws.specs.Tests.{by_cases, below_suc, or_no, and_yes}
use Rattle.laws.specs.Passing.{passing}
use Rattle.laws.specs.Ahead.{Ordering, or_yes, never, not_both}

or_swap : (a b c : Bool) → (a || (b || c)) ≡ (b || (a || c))
or_swap true true c = refl
or_swap true false c = refl
or_swap false true c = refl
or_swap false false c = refl

-- ---- among
pub among_at : (l : List ℕ) (j : ℕ) → j < length l → among (get_or l j 0) l ≡ true
unfolding among
among_at [] j h = absurd (not-suc-le-zero h)
among_at (e ∷ l) zero h = rw (eq-eqb e e refl)
among_at (e ∷ l) (suc j) h = rw (among_at l j (le_of_suc-le-suc h)) (or-true (eqb (get_or l j 0) e))

pub among_found : (d : ℕ) (l : List ℕ) → among d l ≡ true → (j : ℕ) × (j < length l) × (get_or l j 0 ≡ d)
unfolding among
among_found d [] y = absurd (false≢true y)
among_found d (e ∷ l) y =
    or_yes (eqb d e) (among d l) y
    (λ a. (0, omega arith, sym (eqb-true d e a)))
    (λ a. let r = among_found d l a in (suc r.0, omega (arith, r.1), r.2))

-- ---- insert
take_cons_take : (k e : ℕ) (l : List ℕ) → take k (e ∷ take k l) ≡ take k (e ∷ l)
take_cons_take zero e l = refl
take_cons_take (suc k) e l = ap (λ (r : List ℕ). e ∷ r) (take-take k (suc k) l (omega arith))

module _ (before : ℕ → ℕ → Bool) where
  pub insert_length : (d : ℕ) (l : List ℕ) → length (insert before d l) ≡ suc (length l)
  unfolding insert
  insert_length d [] = refl
  insert_length d (e ∷ l) =
      by_cases (before d e)
      (λ (y : before d e ≡ true). rw y)
      (λ (z : before d e ≡ false). rw (z, insert_length d l))

  pub insert_count : (t : ℕ → Bool) (d : ℕ) (l : List ℕ) → count t (insert before d l) ≡ cond (t d) 1 0 + count t l
  unfolding insert count
  insert_count t d [] = refl
  insert_count t d (e ∷ l) =
      by_cases (before d e)
      (λ (y : before d e ≡ true). rw y)
      (λ (z : before d e ≡ false). rw (z, insert_count t d l) (omega arith))

  pub insert_among : (x d : ℕ) (l : List ℕ) → among x (insert before d l) ≡ (eqb x d || among x l)
  unfolding insert among
  insert_among x d [] = refl
  insert_among x d (e ∷ l) =
      by_cases (before d e)
      (λ (y : before d e ≡ true). rw y)
      (λ (z : before d e ≡ false). rw (z, insert_among x d l) (or_swap (eqb x e) (eqb x d) (among x l)))

  -- a list's entries from j on: d stands before the first of them, and before none of the entries passed
  pub insert_seat : (d : ℕ) (l : List ℕ) (j : ℕ) → j ≤ length l → ((a : ℕ) → a < j → before d (get_or l a 0) ≡ false)
      → (j < length l → before d (get_or l j 0) ≡ true) → insert before d l ≡ take j l ++ d ∷ drop j l
  unfolding insert
  insert_seat d [] zero h f g = refl
  insert_seat d [] (suc j) h f g = absurd (not-suc-le-zero h)
  insert_seat d (e ∷ l) zero h f g = rw (g (omega arith))
  insert_seat d (e ∷ l) (suc j) h f g =
      let first : before d e ≡ false = f 0 (omega arith) in
      rw (first, insert_seat d l j (le_of_suc-le-suc h) (λ a k. f (suc a) (omega arith)) (λ k. g (omega arith)))

  -- of the result, the first k entries need the first k entries only
  pub take_insert : (k d : ℕ) (l : List ℕ) → take k (insert before d l) ≡ take k (insert before d (take k l))
  unfolding insert
  take_insert zero d l = refl
  take_insert (suc k) d [] = refl
  take_insert (suc k) d (e ∷ l) =
      by_cases (before d e)
      (λ (y : before d e ≡ true). rw (y, take_cons_take k e l))
      (λ (z : before d e ≡ false). rw z (ap (λ (r : List ℕ). e ∷ r) (take_insert k d l)))

-- two orders that agree between d and the entries
pub insert_same : (before after : ℕ → ℕ → Bool) (d : ℕ) (l : List ℕ)
    → ((e : ℕ) → among e l ≡ true → before d e ≡ after d e) → insert before d l ≡ insert after d l
unfolding insert among
insert_same before after d [] h = refl
insert_same before after d (e ∷ l) h =
    let here : before d e ≡ after d e = h e (rw (eq-eqb e e refl)) in
    rw (here, insert_same before after d l (λ x y. h x (rw y (or-true (eqb x e)))))

-- ---- lists in the order
-- each entry stands before every later one
abbrev pub Sorted : (ℕ → ℕ → Bool) → List ℕ → Type 0
Sorted before l = (a b : ℕ) → a < b → b < length l → before (get_or l a 0) (get_or l b 0) ≡ true

-- d stands before every entry
abbrev pub Leads : (ℕ → ℕ → Bool) → ℕ → List ℕ → Type 0
Leads before d l = (e : ℕ) → among e l ≡ true → before d e ≡ true

module _ (before : ℕ → ℕ → Bool) where
  pub sorted_cons : (e : ℕ) (l : List ℕ) → Leads before e l → Sorted before l → Sorted before (e ∷ l)
  sorted_cons e l leads h zero zero lt b = absurd (not-suc-le-zero lt)
  sorted_cons e l leads h zero (suc b) lt k = leads (get_or l b 0) (among_at l b (le_of_suc-le-suc k))
  sorted_cons e l leads h (suc a) zero lt k = absurd (not-suc-le-zero lt)
  sorted_cons e l leads h (suc a) (suc b) lt k = h a b (le_of_suc-le-suc lt) (le_of_suc-le-suc k)

  pub sorted_tail : (e : ℕ) (l : List ℕ) → Sorted before (e ∷ l) → Sorted before l
  sorted_tail e l h a b lt k = h (suc a) (suc b) (omega arith) (omega arith)

  pub sorted_head : (e : ℕ) (l : List ℕ) → Sorted before (e ∷ l) → Leads before e l
  sorted_head e l h x y =
      let r = among_found x l y in
      let z : before e (get_or l r.0 0) ≡ true = h 0 (suc r.0) (omega arith) (omega (arith, r.1)) in
      rw r.2 at z

  pub sorted_take : (k : ℕ) (l : List ℕ) → Sorted before l → Sorted before (take k l)
  sorted_take k l h a b lt c =
      let size = length-take k l in
      let c' : b < length (take k l) = c in
      rw (get_or-take k l a 0 (omega arith), get_or-take k l b 0 (omega arith)) (h a b lt (omega arith))

module _ (before : ℕ → ℕ → Bool) (o : Ordering before) where
  -- no item stands in it twice
  pub sorted_once : (l : List ℕ) → Sorted before l → (a b : ℕ) → a < length l → b < length l → get_or l a 0 ≡ get_or l b 0
      → a ≡ b
  sorted_once l h a b ka kb e =
      by_cases (ltb a b)
      (λ y.
      let z : before (get_or l a 0) (get_or l b 0) ≡ true = h a b (ltb-true a b y) kb in
      absurd (true≢false (sym z ∙ ap (λ (x : ℕ). before x (get_or l b 0)) e ∙ o.itself (get_or l b 0))))
      (λ y.
      by_cases (ltb b a)
      (λ x.
      let z : before (get_or l b 0) (get_or l a 0) ≡ true = h b a (ltb-true b a x) ka in
      absurd (true≢false (sym z ∙ ap (λ (w : ℕ). before w (get_or l a 0)) (sym e) ∙ o.itself (get_or l a 0))))
      (λ x. omega (arith, ltb-false a b y, ltb-false b a x)))

  leads_through : (d e : ℕ) (l : List ℕ) → before d e ≡ true → Leads before e l → Leads before d (e ∷ l)
  unfolding among
  leads_through d e l y h x m =
      or_yes (eqb x e) (among x l) m
      (λ a. let same : x ≡ e = eqb-true x e a in rw same y)
      (λ a. o.through d e x y (h x a))

  pub insert_sorted : (d : ℕ) (l : List ℕ) → among d l ≡ false → Sorted before l → Sorted before (insert before d l)
  unfolding insert among
  insert_sorted d [] new h = sorted_cons before d [] (λ x m. absurd (false≢true m)) h
  insert_sorted d (e ∷ l) new h =
      let parts = or_no (eqb d e) (among d l) new in
      let leads = sorted_head before e l h in
      by_cases (before d e)
      (λ (y : before d e ≡ true). rw y (sorted_cons before d (e ∷ l) (leads_through d e l y leads) h))
      (λ (z : before d e ≡ false).
      let ahead_of_d : before e d ≡ true = o.either d e (eqb-false d e parts.0) z in
      rw z
      (sorted_cons before e (insert before d l)
      (λ x m.
      or_yes (eqb x d) (among x l) (sym (insert_among before x d l) ∙ m)
      (λ a. let same : x ≡ d = eqb-true x d a in rw same ahead_of_d)
      (λ a. leads x a))
      (insert_sorted d l parts.1 (sorted_tail before e l h))))

  -- the order of two insertions does not matter
  insert_others : (d e : ℕ) → (d ≡ e → ⊥) → (l : List ℕ)
      → insert before d (insert before e l) ≡ insert before e (insert before d l)
  unfolding insert
  insert_others d e other [] =
      by_cases (before d e)
      (λ (y : before d e ≡ true). rw (y, not_both o d e y))
      (λ (z : before d e ≡ false). rw (z, o.either d e other z))
  insert_others d e other (x ∷ l) =
      by_cases (before d x)
      (λ (dx : before d x ≡ true).
      by_cases (before e x)
      (λ (ex : before e x ≡ true).
      by_cases (before d e)
      (λ (y : before d e ≡ true). rw (ex, dx, y, not_both o d e y, ex))
      (λ (z : before d e ≡ false). rw (ex, dx, z, o.either d e other z)))
      (λ (ex : before e x ≡ false).
      let ed : before e d ≡ false = never (before e d) (λ y. true≢false (sym (o.through e d x y dx) ∙ ex)) in
      rw (ex, dx, ed, ex)))
      (λ (dx : before d x ≡ false).
      by_cases (before e x)
      (λ (ex : before e x ≡ true).
      let de : before d e ≡ false = never (before d e) (λ y. true≢false (sym (o.through d e x y ex) ∙ dx)) in
      rw (ex, dx, de, ex))
      (λ (ex : before e x ≡ false). rw (ex, dx, ex) (ap (λ (r : List ℕ). x ∷ r) (insert_others d e other l))))

  pub insert_insert : (d e : ℕ) (l : List ℕ) → insert before d (insert before e l) ≡ insert before e (insert before d l)
  insert_insert d e l =
      by_cases (eqb d e)
      (λ y. let same : d ≡ e = eqb-true d e y in rw same)
      (λ z. insert_others d e (eqb-false d e z) l)

  -- the seat of d in a list in the order, found from the end: each entry from j on stands after d, the one before it does not
  pub insert_at : (d : ℕ) (l : List ℕ) (j : ℕ) → Sorted before l → j ≤ length l
      → ((a : ℕ) → j ≤ a → a < length l → before d (get_or l a 0) ≡ true)
      → (0 < j → before d (get_or l (j - 1) 0) ≡ false) → insert before d l ≡ take j l ++ d ∷ drop j l
  insert_at d l j h k later earlier =
      insert_seat before d l j k
      (λ a lt.
      let fails : before d (get_or l (j - 1) 0) ≡ false = earlier (omega arith) in
      never (before d (get_or l a 0))
      (λ (y : before d (get_or l a 0) ≡ true).
      by_cases (ltb a (j - 1))
      (λ x.
      let onward : before (get_or l a 0) (get_or l (j - 1) 0) ≡ true = h a (j - 1) (ltb-true a (j - 1) x) (omega arith) in
      true≢false (sym (o.through d (get_or l a 0) (get_or l (j - 1) 0) y onward) ∙ fails))
      (λ x.
      let same : a ≡ j - 1 = omega (arith, ltb-false a (j - 1) x) in
      true≢false (sym y ∙ ap (λ (b : ℕ). before d (get_or l b 0)) same ∙ fails))))
      (λ lt. later j (omega arith) lt)

-- ---- ranked
below_other : (d n : ℕ) → (d ≡ n → ⊥) → ltb d (suc n) ≡ ltb d n
below_other d n other =
    by_cases (ltb d n)
    (λ (y : ltb d n ≡ true). rw y (lt-ltb d (suc n) (omega (arith, ltb-true d n y))))
    (λ (z : ltb d n ≡ false).
    let apart : d ≢ n = other in
    rw z (le-ltb d (suc n) (omega (arith, ltb-false d n z))))

module _ (before : ℕ → ℕ → Bool) where
  pub ranked_count : (t u : ℕ → Bool) (n : ℕ) → count u (ranked before t n) ≡ passing (λ d. t d && u d) n
  unfolding ranked passing count
  ranked_count t u zero = refl
  ranked_count t u (suc n) =
      by_cases (t n)
      (λ (y : t n ≡ true). rw (y, insert_count before u n (ranked before t n), ranked_count t u n) (omega arith))
      (λ (z : t n ≡ false). rw (z, ranked_count t u n) (omega arith))

  pub ranked_length : (t : ℕ → Bool) (n : ℕ) → length (ranked before t n) ≡ passing t n
  unfolding ranked passing
  ranked_length t zero = refl
  ranked_length t (suc n) =
      by_cases (t n)
      (λ (y : t n ≡ true). rw (y, insert_length before n (ranked before t n), ranked_length t n) (omega arith))
      (λ (z : t n ≡ false). rw (z, ranked_length t n) (omega arith))

  pub ranked_none : (t : ℕ → Bool) (n : ℕ) → ((d : ℕ) → t d ≡ false) → ranked before t n ≡ []
  unfolding ranked
  ranked_none t zero h = refl
  ranked_none t (suc n) h = rw (h n) (ranked_none t n h)

  pub ranked_among : (t : ℕ → Bool) (d n : ℕ) → among d (ranked before t n) ≡ (ltb d n && t d)
  unfolding ranked among
  ranked_among t d zero = rw (le-ltb d 0 (omega arith))
  ranked_among t d (suc n) =
      by_cases (eqb d n)
      (λ (y : eqb d n ≡ true).
      let same : d ≡ n = eqb-true d n y in
      by_cases (t n)
      (λ (yes_n : t n ≡ true).
      let yes_d : t d ≡ true = rw same yes_n in
      rw (yes_n, insert_among before d n (ranked before t n), y, yes_d, lt-ltb d (suc n) (omega arith)))
      (λ (not_n : t n ≡ false).
      let not_d : t d ≡ false = rw same not_n in
      rw (not_n, ranked_among t d n, not_d, lt-ltb d (suc n) (omega arith)) (and-false (ltb d n))))
      (λ (z : eqb d n ≡ false).
      by_cases (t n)
      (λ (yes_n : t n ≡ true).
      rw (yes_n, insert_among before d n (ranked before t n), z, ranked_among t d n, below_other d n (eqb-false d n z)))
      (λ (not_n : t n ≡ false). rw (not_n, ranked_among t d n, below_other d n (eqb-false d n z))))

-- equal tests below n, and orders that agree on the items that pass: equal lists
pub ranked_same : (before after : ℕ → ℕ → Bool) (t u : ℕ → Bool) (n : ℕ) → ((d : ℕ) → d < n → t d ≡ u d)
    → ((d e : ℕ) → d < n → e < n → t d ≡ true → t e ≡ true → before d e ≡ after d e)
    → ranked before t n ≡ ranked after u n
unfolding ranked
ranked_same before after t u zero h k = refl
ranked_same before after t u (suc n) h k =
    let earlier =
    ranked_same before after t u n (λ d l. h d (omega arith)) (λ d e ld le. k d e (omega arith) (omega arith)) in
    let here : t n ≡ u n = h n (omega arith) in
    by_cases (t n)
    (λ (y : t n ≡ true).
    rw (← here, y, ← earlier)
    (insert_same before after n (ranked before t n)
    (λ e m.
    let in_it = and_yes (ltb e n) (t e) (sym (ranked_among before t e n) ∙ m) in
    k n e (omega arith) (omega (arith, ltb-true e n in_it.0)) y in_it.1)))
    (λ (z : t n ≡ false). rw (← here, z) earlier)

module _ (before : ℕ → ℕ → Bool) (o : Ordering before) where
  pub ranked_sorted : (t : ℕ → Bool) (n : ℕ) → Sorted before (ranked before t n)
  unfolding ranked
  ranked_sorted t zero = λ a b lt k. absurd (not-suc-le-zero k)
  ranked_sorted t (suc n) =
      by_cases (t n)
      (λ (y : t n ≡ true).
      let new : among n (ranked before t n) ≡ false = rw (ranked_among before t n n, le-ltb n n (omega arith)) in
      rw y (insert_sorted before o n (ranked before t n) new (ranked_sorted t n)))
      (λ (z : t n ≡ false). rw z (ranked_sorted t n))

  pub ranked_once : (t : ℕ → Bool) (n a b : ℕ) → a < length (ranked before t n) → b < length (ranked before t n)
      → get_or (ranked before t n) a 0 ≡ get_or (ranked before t n) b 0 → a ≡ b
  ranked_once t n = sorted_once before o (ranked before t n) (ranked_sorted t n)

  -- one item more passes: it is put in its place
  pub ranked_more : (t u : ℕ → Bool) (n e : ℕ) → e < n → t e ≡ false → ((x : ℕ) → x < n → u x ≡ (t x || eqb x e))
      → ranked before u n ≡ insert before e (ranked before t n)
  unfolding ranked
  ranked_more t u zero e l f h = absurd (not-suc-le-zero l)
  ranked_more t u (suc n) e l f h =
      below_suc e n l
      (λ (k : e < n).
      let same : u n ≡ t n = rw (h n (omega arith), ne_eqb n e (λ x. omega arith)) (or-false (t n)) in
      let earlier = ranked_more t u n e k f (λ d b. h d (omega arith)) in
      by_cases (t n)
      (λ (y : t n ≡ true). rw (same, y, earlier) (insert_insert before o n e (ranked before t n)))
      (λ (z : t n ≡ false). rw (same, z) earlier))
      (λ (x : e ≡ n).
      let now : u n ≡ true = rw (h n (omega arith), eq-eqb n e (sym x)) (or-true (t n)) in
      let was : t n ≡ false = rw x at f in
      let same =
      ranked_same before before u t n
      (λ d b. h d (omega arith) ∙ rw (ne_eqb d e (λ y. omega arith)) (or-false (t d)))
      (λ d e _ _ _ _. refl) in
      rw (now, was, same, x))
