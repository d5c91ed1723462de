-- The rows of TA and BPA over a valid pose set.
--     row_looked, rows_looked    the first i lists of a row are i lookups; p rows are p * m lookups
--     row_within         the first lists of a row visit no position more often than more of them do
--     rows_made          p rows make p * m times as many accesses of a kind as a lookup does
--     once_next          what is below suc p is below p or is p
--     rows_visits, rows_at       an item's places are visited once for each list that has it among its first p positions
--     rows_covers        the first p positions of every list are visited
--     rows_most          no position is visited more than m times
--     rows_inside        whatever they visit, all whole accesses visit that visit the first p positions of every list
-- Assumes nothing.
use Rattle.std.specs.Prelude.{◌≡◌, refl, Bool, true, false, ◌≢◌, List, ◌++◌, eqb}
use Rattle.std.proofs.Math.Path.{sym}
use Rattle.std.proofs.Common.{ap, ◌∙◌, append_assoc, append-nil, zero-mul, suc-mul, eq-or-lt_of_le}
use Rattle.std.proofs.Math.Logic.{⊎_elim}
use Prim.Native.Nat.{ℕ, zero, suc, ◌+◌, ◌*◌, ◌≤◌, ◌<◌}
use Rattle.std.proofs.Math.Nat.{add-zero, add-suc}
use native.Mathlib.Omega.{arith}
use Rattle.std.proofs.Math.Dec.{ltb}
use borrow.Author.Tests.{eqb-true, eqb-false, ne_eqb, ltb-true, ltb-false, lt-ltb, le-ltb}
use Rattle.model.specs.Given.{Poses, item, place}
use Rattle.model.specs.Accesses.{Kind, sorted, Access, lookup, row_ta, rows_ta, times, visited, made}
use Rattle.laws.specs.Tests.{by_cases, some_found}
use Rattle.laws.specs.Accepted.{Valid}
use Rattle.laws.specs.Lookups.{once, times_append, made_append, times_none, made_none}
use Rattle.laws.specs.Meetings.{Whole, lookup_at, place_eqb}
use Rattle.laws.specs.Passing.{passing, passing_most, passing_none, passing_some, some_passing, eqb_swap}
use Rattle.laws.specs.Visits.{Covers, visited_least, least_visited}
use Rattle.laws.specs.Looked.{Looked, looked_none, looked_more}

module _ (s : Poses) where
  pub row_looked : {tr : List Access} {c : ℕ} (p i : ℕ) → p < s.n → i ≤ s.m → Looked s sorted tr c
      → Looked s sorted (tr ++ row_ta s p i) (c + i)
  unfolding row_ta
  row_looked {tr} {c} p zero hp hi l = rw (append-nil tr, add-zero c) l
  row_looked {tr} {c} p (suc i) hp hi l =
      rw (← (append_assoc tr (row_ta s p i) (lookup s sorted i p)), add-suc c i)
      (looked_more i p hi hp (row_looked p i hp (omega arith) l))

  pub rows_looked : (p : ℕ) → p ≤ s.n → Looked s sorted (rows_ta s p) (p * s.m)
  unfolding rows_ta
  rows_looked zero h = rw (zero-mul s.m) looked_none
  rows_looked (suc p) h = rw (suc-mul p s.m) (row_looked p s.m h (omega arith) (rows_looked p (omega arith)))

  -- as many accesses of a kind as each lookup makes of it
  row_made : (k : Kind) (c p i : ℕ) → i ≤ s.m → ((j : ℕ) → j < s.m → made k (lookup s sorted j p) ≡ c)
      → made k (row_ta s p i) ≡ i * c
  unfolding row_ta
  row_made k c p zero hi h = made_none k ∙ sym (zero-mul c)
  row_made k c p (suc i) hi h =
      rw (made_append k (row_ta s p i) (lookup s sorted i p), row_made k c p i (omega arith) h, h i hi)
      (sym (suc-mul i c))

  pub rows_made : (k : Kind) (c p : ℕ) → ((j x : ℕ) → j < s.m → made k (lookup s sorted j x) ≡ c)
      → made k (rows_ta s p) ≡ p * (s.m * c)
  unfolding rows_ta
  rows_made k c zero h = made_none k ∙ sym (zero-mul (s.m * c))
  rows_made k c (suc p) h =
      let last = row_made k c p s.m (omega arith) (λ j hj. h j p hj) in
      rw (made_append k (rows_ta s p) (row_ta s p s.m), rows_made k c p h, last) (sym (suc-mul p (s.m * c)))

-- what is below suc p is below p or is p
pub once_next : (x p : ℕ) → once (ltb x p) + once (eqb x p) ≡ once (ltb x (suc p))
once_next x p =
    by_cases (ltb x p)
    (λ (y : ltb x p ≡ true).
    let l = ltb-true x p y in
    rw (y, ne_eqb x p (λ e. omega arith), lt-ltb x (suc p) (omega arith)))
    (λ (z : ltb x p ≡ false).
    by_cases (eqb x p)
    (λ (y : eqb x p ≡ true). rw (z, y, lt-ltb x (suc p) (omega (arith, eqb-true x p y))))
    (λ (w : eqb x p ≡ false).
    let other : x ≢ p = eqb-false x p w in
    rw (z, w, le-ltb x (suc p) (omega (arith, ltb-false x p z)))))

below_next : (f : ℕ → ℕ) (p m : ℕ)
    → passing (λ j. ltb (f j) p) m + passing (λ j. eqb (f j) p) m ≡ passing (λ j. ltb (f j) (suc p)) m
unfolding passing
below_next f p zero = refl
below_next f p (suc m) = omega (arith, below_next f p m, once_next (f m) p)

module _ (s : Poses) (v : Valid s) where
  -- the item at position p is d where d's place is p
  place_found : (i p d : ℕ) → i < s.m → p < s.n → d < s.n → eqb (item s i p) d ≡ eqb (place s i d) p
  place_found i p d hi hp hd =
      eqb_swap (item s i p) d ∙ sym (place_eqb s v i d (item s i p) hi hd (v.is_item i p hi hp))
      ∙ ap (eqb (place s i d)) (v.place_of_item i p hi hp)

  -- in the first i lists of row p
  row_visits : (p i j d : ℕ) → p < s.n → i ≤ s.m → j < s.m → d < s.n
      → times (row_ta s p i) j (place s j d) ≡ passing (λ i. eqb (place s i d) p) i
  unfolding row_ta passing
  row_visits p zero j d hp hi hj hd = times_none j (place s j d)
  row_visits p (suc i) j d hp hi hj hd =
      rw (
        times_append (row_ta s p i) (lookup s sorted i p) j (place s j d),
        row_visits p i j d hp (omega arith) hj hd,
        lookup_at s v sorted i p j d hi hp hj hd,
        place_found i p d hi hp hd,
      )

  pub rows_visits : (p j d : ℕ) → p ≤ s.n → j < s.m → d < s.n
      → times (rows_ta s p) j (place s j d) ≡ passing (λ i. ltb (place s i d) p) s.m
  unfolding rows_ta
  rows_visits zero j d hp hj hd =
      times_none j (place s j d)
      ∙ sym (passing_none (λ i. ltb (place s i d) 0) s.m (λ i _. le-ltb (place s i d) 0 (omega arith)))
  rows_visits (suc p) j d hp hj hd =
      rw (
        times_append (rows_ta s p) (row_ta s p s.m) j (place s j d),
        rows_visits p j d (omega arith) hj hd,
        row_visits p s.m j d hp (omega arith) hj hd,
      )
      (below_next (λ i. place s i d) p s.m)

  -- fewer lists of a row visit no position more often
  pub row_within : (p i b j x : ℕ) → i ≤ b → times (row_ta s p i) j x ≤ times (row_ta s p b) j x
  unfolding row_ta
  row_within p i zero j x h = let none : i ≡ 0 = omega arith in rw none (omega arith)
  row_within p i (suc b) j x h =
      let last = times_append (row_ta s p b) (lookup s sorted b p) j x in
      ⊎_elim
      (λ (e : i ≡ suc b). rw e (omega arith))
      (λ (l : i < suc b). omega (arith, row_within p i b j x (omega arith)))
      (eq-or-lt_of_le h)

  -- the same by position
  pub rows_at : (p i q : ℕ) → p ≤ s.n → i < s.m → q < s.n
      → times (rows_ta s p) i q ≡ passing (λ j. ltb (place s j (item s i q)) p) s.m
  rows_at p i q hp hi hq =
      ap (times (rows_ta s p) i) (sym (v.place_of_item i q hi hq))
      ∙ rows_visits p i (item s i q) hp hi (v.is_item i q hi hq)

  pub rows_covers : (p : ℕ) → p ≤ s.n → Covers s (rows_ta s p) p
  rows_covers p hp i q hi hq =
      let stands : place s i (item s i q) ≡ q = v.place_of_item i q hi (omega arith) in
      let early : ltb (place s i (item s i q)) p ≡ true = rw stands (lt-ltb q p hq) in
      least_visited (rows_ta s p) i q
      (rw (rows_at p i q hp hi (omega arith)) (passing_some (λ j. ltb (place s j (item s i q)) p) s.m i hi early))

  pub rows_most : (p i q : ℕ) → p ≤ s.n → i < s.m → q < s.n → times (rows_ta s p) i q ≤ s.m
  rows_most p i q hp hi hq =
      rw (rows_at p i q hp hi hq) (passing_most (λ j. ltb (place s j (item s i q)) p) s.m)

  -- accesses that are whole and visit the first p positions visit whatever p rows visit
  pub rows_inside : (p : ℕ) (tr : List Access) → p ≤ s.n → Whole s tr → Covers s tr p
      → (i q : ℕ) → i < s.m → q < s.n → visited (rows_ta s p) i q ≡ true → visited tr i q ≡ true
  rows_inside p tr hp w c i q hi hq y =
      let d = item s i q in
      let hd = v.is_item i q hi hq in
      let stands : place s i d ≡ q = v.place_of_item i q hi hq in
      let early : ℕ → Bool = λ j. ltb (place s j d) p in
      let some : 1 ≤ passing early s.m = rw (rows_at p i q hp hi hq) at (visited_least (rows_ta s p) i q y) in
      let at = some_found early s.m (some_passing early s.m some) in
      let j = at.0 in
      let seen : 1 ≤ times tr j (place s j d) =
      visited_least tr j (place s j d) (c j (place s j d) at.1 (ltb-true (place s j d) p at.2)) in
      let here : times tr i (place s i d) ≡ times tr j (place s j d) =
      w.alike i d hi hd ∙ sym (w.alike j d at.1 hd) in
      least_visited tr i q (rw (← stands, here) seen)
