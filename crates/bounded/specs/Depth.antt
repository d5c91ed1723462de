-- After p rows of NRA the first p positions of each list are visited, once each, and nothing else.
--     row_times, rows_times, rows_visited    how often a position is visited in a row, and in the first p rows
--     tally_deep                             the tally after p rows
--     read_deep                              a local score, where its position is one of the first p
--     met_deep                               an item is met where one of its positions is
-- Assumes nothing.
use Rattle.std.specs.Prelude.{◌≡◌, refl, Bool, true, false, cond, ◌&&◌, ◌≢◌, [], ℕ, zero, suc, ◌+◌, ◌≤◌, ◌<◌, eqb, leb, ltb}
use Rattle.std.proofs.Math.Bool.{and-true, and-false}
use Rattle.std.proofs.Common.{arith, eqb-true, ltb-true, ltb-false, lt-ltb, le-ltb}
use Rattle.std.proofs.lemmas.Bool.{eqb-false}
use Rattle.model.specs.Words.{count, some_below, table}
use Rattle.model.specs.Given.{Poses, score, place}
use Rattle.model.specs.Accesses.{sorted, row_nra, rows_nra, times, visited, met, tally}
use Rattle.model.specs.Searches.{read_or}
use Rattle.laws.specs.Tests.{by_cases, some_same}
use Rattle.laws.specs.Lists.{table_same}
use Rattle.laws.specs.Lookups.{once, times_append, times_one}

-- ---- visits
times_none : (i q : ℕ) → times [] i q ≡ 0
unfolding times count
times_none i q = refl

ltb_step : (q p : ℕ) → once (ltb q p) + once (eqb p q) ≡ once (ltb q (suc p))
ltb_step q p =
    by_cases (eqb p q)
    (λ (y : eqb p q ≡ true).
    let e : p ≡ q = eqb-true p q y in
    rw (y, le-ltb q p (omega arith), lt-ltb q (suc p) (omega arith)))
    (λ (z : eqb p q ≡ false).
    by_cases (ltb q p)
    (λ (y : ltb q p ≡ true). rw (z, y, lt-ltb q (suc p) (omega (arith, ltb-true q p y))))
    (λ (w : ltb q p ≡ false).
    let apart : p ≢ q = eqb-false p q z in
    let more : p ≤ q = ltb-false q p w in
    let beyond : suc p ≤ q = omega arith in
    rw (z, w, le-ltb q (suc p) beyond)))

-- in the first j lists, row p visits position p
pub row_times : (p j i q : ℕ) → times (row_nra p j) i q ≡ once (ltb i j && eqb p q)
unfolding row_nra
row_times p zero i q = rw (times_none i q, le-ltb i 0 (omega arith))
row_times p (suc j) i q =
    rw (times_append, row_times p j i q, times_one sorted j p i q)
    (by_cases (eqb p q)
    (λ (y : eqb p q ≡ true). rw y (simp and-true (ltb_step i j)))
    (λ (z : eqb p q ≡ false). rw z (simp and-false)))

pub rows_times : (s : Poses) (p i q : ℕ) → i < s.m → times (rows_nra s p) i q ≡ once (ltb q p)
unfolding rows_nra
rows_times s zero i q h = rw (times_none i q, le-ltb q 0 (omega arith))
rows_times s (suc p) i q h =
    rw (times_append, rows_times s p i q h, row_times p s.m i q, lt-ltb i s.m h) (ltb_step q p)

once_positive : (b : Bool) → leb 1 (once b) ≡ b
once_positive true = refl
once_positive false = refl

pub rows_visited : (s : Poses) (p i q : ℕ) → i < s.m → visited (rows_nra s p) i q ≡ ltb q p
unfolding visited
rows_visited s p i q h = rw (rows_times s p i q h) (once_positive (ltb q p))

pub tally_deep : (s : Poses) (p : ℕ) → tally s (rows_nra s p) ≡ table (λ i q. once (ltb q p)) s.n s.m
unfolding tally
tally_deep s p = table_same (times (rows_nra s p)) (λ i q. once (ltb q p)) s.n s.m (λ i q hi _. rows_times s p i q hi)

-- ---- what is read
pub read_deep : (s : Poses) (p d i x : ℕ) → i < s.m
    → read_or s p d i x ≡ cond (ltb (place s i d) p) (score s i (place s i d)) x
unfolding read_or
read_deep s p d i x h = rw (rows_visited s p i (place s i d) h)

pub met_deep : (s : Poses) (p d : ℕ) → met s (rows_nra s p) d ≡ some_below (λ i. ltb (place s i d) p) s.m
unfolding met
met_deep s p d = some_same (λ i. visited (rows_nra s p) i (place s i d)) (λ i. ltb (place s i d) p) s.m (λ i h. rows_visited s p i (place s i d) h)
