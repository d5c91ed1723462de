-- NRA over a valid pose set: what it has read, and its bounds.
--     nra_times, nra_visited     after p rows the first p positions of every list are visited, each once, and no others
--     nra_inside                 its accesses lie inside
--     nra_made                   p rows are p * m sorted accesses and no others
--     low_bound, high_bound      an item's overall score lies between its low and its high, after any number of rows
--     nra_stops, nra_best        it stops at row n, and where it stops no item left out scores above one returned
-- Assumes nothing.
use Rattle.std.specs.Prelude.{◌≡◌, false, cond, ◌&&◌, ◌||◌, List, [], ◌∷◌, eqb}
use Rattle.std.proofs.Math.Path.{sym}
use Rattle.std.proofs.Common.{◌∙◌, zero-mul, suc-mul, arith}
use Rattle.std.proofs.Math.Bool.{Bool, true, and-true, and-false}
use Prim.Native.Nat.{ℕ, zero, suc, ◌+◌, ◌-◌, ◌*◌, ◌≤◌, ◌<◌}
use Rattle.std.proofs.Math.Dec.{leb, ltb}
use Rattle.std.proofs.Math.ListN.{length, take, length-take}
use borrow.Author.Tests.{ltb-false, lt-ltb, le-ltb, leb-true, le-leb}
use Rattle.model.specs.Words.{last_of, every_below}
use Rattle.model.specs.Given.{Poses, Query, score, place, total}
use Rattle.model.specs.Accesses.{Kind, sorted, access, same_kind, row_nra, rows_nra, times, visited, met, made}
use Rattle.model.specs.Searches.{ahead, ranked, among, order, kept, stops, read_or, low_nra, high_nra, NRA}
use Rattle.laws.specs.Tests.{by_cases, and_yes, every_all, every_at}
use Rattle.laws.specs.Accepted.{Valid}
use Rattle.laws.specs.Lookups.{once, times_append, times_one, made_append, times_none, made_none, made_one}
use Rattle.laws.specs.Passing.{passing_all, eqb_swap}
use Rattle.laws.specs.Ranking.{ranked_length}
use Rattle.laws.specs.Kept.{kept_item, kept_low, left_low}
use Rattle.laws.specs.Overall.{overall_rises, overall_same}
use Rattle.laws.specs.Sums.{Inside, inside_none, inside_more, inside_append}
use Rattle.laws.specs.Visits.{visited_met}
use Rattle.laws.specs.Rows.{once_next}

-- ---- its accesses
row_times : (p i j x : ℕ) → times (row_nra p i) j x ≡ once (ltb j i && eqb p x)
unfolding row_nra
row_times p zero j x = rw (le-ltb j 0 (omega arith)) (times_none j x)
row_times p (suc i) j x =
    rw (times_append (row_nra p i) (access sorted i p ∷ []) j x, row_times p i j x, times_one sorted i p j x)
    (one_list (eqb p x))
  where
    one_list : (b : Bool) → once (ltb j i && b) + once (eqb i j && b) ≡ once (ltb j (suc i) && b)
    one_list true = rw (and-true (ltb j i), and-true (eqb i j), and-true (ltb j (suc i)), eqb_swap i j) (once_next j i)
    one_list false = rw (and-false (ltb j i), and-false (eqb i j), and-false (ltb j (suc i)))

pub nra_times : (s : Poses) (p j x : ℕ) → j < s.m → times (rows_nra s p) j x ≡ once (ltb x p)
unfolding rows_nra
nra_times s zero j x hj = rw (le-ltb x 0 (omega arith)) (times_none j x)
nra_times s (suc p) j x hj =
    rw (times_append (rows_nra s p) (row_nra p s.m) j x, nra_times s p j x hj)
    (rw (row_times p s.m j x, lt-ltb j s.m hj, eqb_swap p x) (once_next x p))

pub nra_visited : (s : Poses) (p j x : ℕ) → j < s.m → visited (rows_nra s p) j x ≡ ltb x p
unfolding visited
nra_visited s p j x hj =
    by_cases (ltb x p)
    (λ (y : ltb x p ≡ true). rw (nra_times s p j x hj, y))
    (λ (z : ltb x p ≡ false). rw (nra_times s p j x hj, z))

row_inside : (s : Poses) (p i : ℕ) → p < s.n → i ≤ s.m → Inside s (row_nra p i)
unfolding row_nra
row_inside s p zero hp hi = inside_none
row_inside s p (suc i) hp hi = inside_append (row_inside s p i hp (omega arith)) (inside_more hi hp inside_none)

pub nra_inside : (s : Poses) (p : ℕ) → p ≤ s.n → Inside s (rows_nra s p)
unfolding rows_nra
nra_inside s zero hp = inside_none
nra_inside s (suc p) hp = inside_append (nra_inside s p (omega arith)) (row_inside s p s.m hp (omega arith))

-- i accesses of the kind sorted in a row of i lists
row_made : (k : Kind) (p i : ℕ) → made k (row_nra p i) ≡ i * once (same_kind sorted k)
unfolding row_nra
row_made k p zero = made_none k ∙ sym (zero-mul (once (same_kind sorted k)))
row_made k p (suc i) =
    rw (made_append k (row_nra p i) (access sorted i p ∷ []), row_made k p i, made_one k sorted i p)
    (sym (suc-mul i (once (same_kind sorted k))))

pub nra_made : (s : Poses) (k : Kind) (p : ℕ) → made k (rows_nra s p) ≡ p * (s.m * once (same_kind sorted k))
unfolding rows_nra
nra_made s k zero = made_none k ∙ sym (zero-mul (s.m * once (same_kind sorted k)))
nra_made s k (suc p) =
    rw (made_append k (rows_nra s p) (row_nra p s.m), nra_made s k p, row_made k p s.m)
    (sym (suc-mul p (s.m * once (same_kind sorted k))))

-- ---- its bounds
module _ (s : Poses) (v : Valid s) (q : Query) where
  -- a read score stands for itself, and x for one not yet read
  reads : (p d i x : ℕ) → i < s.m → read_or s p d i x ≡ cond (ltb (place s i d) p) (score s i (place s i d)) x
  unfolding read_or
  reads p d i x hi = rw (nra_visited s p i (place s i d) hi)

  pub low_bound : (p d : ℕ) → d < s.n → low_nra s q p d ≤ total s q d
  unfolding low_nra total
  low_bound p d hd =
      overall_rises s q (λ i. read_or s p d i 0) (λ i. score s i (place s i d))
      (λ i hi.
      rw (reads p d i 0 hi)
      (by_cases (ltb (place s i d) p)
      (λ (y : ltb (place s i d) p ≡ true). rw y (omega arith))
      (λ (z : ltb (place s i d) p ≡ false). rw z (omega arith))))

  pub high_bound : (p d : ℕ) → d < s.n → total s q d ≤ high_nra s q p d
  unfolding high_nra total
  high_bound p d hd =
      overall_rises s q (λ i. score s i (place s i d)) (λ i. read_or s p d i (score s i (p - 1)))
      (λ i hi.
      rw (reads p d i (score s i (p - 1)) hi)
      (by_cases (ltb (place s i d) p)
      (λ (y : ltb (place s i d) p ≡ true). rw y (omega arith))
      (λ (z : ltb (place s i d) p ≡ false).
      let unread = ltb-false (place s i d) p z in
      rw z (v.falls i (p - 1) (place s i d) hi (omega arith) (v.has_place i d hi hd)))))

  -- after n rows all is read, and both bounds are the score
  all_read : (d i x : ℕ) → d < s.n → i < s.m → read_or s s.n d i x ≡ score s i (place s i d)
  all_read d i x hd hi = rw (reads s.n d i x hi, lt-ltb (place s i d) s.n (v.has_place i d hi hd))

  low_last : (d : ℕ) → d < s.n → low_nra s q s.n d ≡ total s q d
  unfolding low_nra total
  low_last d hd =
      overall_same s q (λ i. read_or s s.n d i 0) (λ i. score s i (place s i d)) (λ i hi. all_read d i 0 hd hi)

  high_last : (d : ℕ) → d < s.n → high_nra s q s.n d ≡ total s q d
  unfolding high_nra total
  high_last d hd =
      overall_same s q (λ i. read_or s s.n d i (score s i (s.n - 1))) (λ i. score s i (place s i d))
      (λ i hi. all_read d i (score s i (s.n - 1)) hd hi)

  -- ---- where it stops
  -- the met items in its order
  abbrev standing : ℕ → List ℕ
  standing p = ranked (ahead (low_nra s q p) (high_nra s q p)) (met s (rows_nra s p)) s.n

  module _ (k : ℕ) (some : 1 ≤ k) where
    pub nra_stops : k ≤ s.n → stops s k (NRA s q) s.n ≡ true
    unfolding stops kept order NRA
    nra_stops few =
        let low = low_nra s q s.n in
        let high = high_nra s q s.n in
        let m = met s (rows_nra s s.n) in
        let l = take k (standing s.n) in
        let each : (d : ℕ) → d < s.n → m d ≡ true =
        λ d hd.
        let one = v.size.m_least in
        visited_met s (rows_nra s s.n) 0 d one
        (nra_visited s s.n 0 (place s 0 d) one ∙ lt-ltb (place s 0 d) s.n (v.has_place 0 d one hd)) in
        let all : length (standing s.n) ≡ s.n =
        ranked_length (ahead low high) m s.n ∙ passing_all m s.n each in
        let full : length l ≡ k = omega (arith, length-take k (standing s.n)) in
        rw (le-leb k (length l) (omega arith))
        (every_all (λ d. among d l || leb (high d) (low (last_of 0 l))) s.n
        (λ d hd.
        by_cases (among d l)
        (λ (y : among d l ≡ true). rw y)
        (λ (z : among d l ≡ false).
        let both : high d ≡ low d = high_last d hd ∙ sym (low_last d hd) in
        let left = left_low low high m s.n k some full d hd (each d hd) z in
        rw z (le-leb (high d) (low (last_of 0 l)) (omega arith)))))

    pub nra_best : (p d e : ℕ) → stops s k (NRA s q) p ≡ true → d < s.n → among d (kept s k (NRA s q) p) ≡ false
        → among e (kept s k (NRA s q) p) ≡ true → total s q d ≤ total s q e
    unfolding stops kept order NRA
    nra_best p d e y hd out inside =
        let low = low_nra s q p in
        let high = high_nra s q p in
        let m = met s (rows_nra s p) in
        let l = take k (standing p) in
        let last = last_of 0 l in
        let t : ℕ → Bool = λ x. among x l || leb (high x) (low last) in
        let parts = and_yes (leb k (length l)) (every_below t s.n) y in
        let full : length l ≡ k = omega (arith, leb-true k (length l) parts.0, length-take k (standing p)) in
        let test : t d ≡ true = every_at t s.n d parts.1 hd in
        let below : high d ≤ low last = leb-true (high d) (low last) (rw out at test) in
        let above = kept_low low high m s.n k some full e inside in
        let in_set = kept_item (ahead low high) m s.n k e inside in
        omega (arith, high_bound p d hd, low_bound p e in_set.0)
