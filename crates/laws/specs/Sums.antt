-- The three counts add up to the sum of the tally.
--     sum                        the sum of a list of numbers
--     sum_append, sum_row, sum_table     over two lists; of a row and of a table whose entries are sums
--     none_row, none_table       of a row and of a table of zeros
--     once_row, once_table       of a row of tests, how many pass; of a table with a single 1
--     append_most, row_most, table_most      how large an entry is
--     Inside, inside_append      accesses that all lie in the m lists at the n positions; two such lists in one
--     made_length                the three counts of a list of accesses add up to its length
--     tally_length               and so does its tally, where all accesses lie inside
--     tally_sum                  so the three counts add up to the tally's sum
-- Assumes nothing.
use Rattle.std.specs.Prelude.{◌≡◌, refl, Bool, true, false, ◌&&◌, List, [], ◌∷◌, ◌++◌, ℕ, zero, suc, ◌+◌, ◌≤◌, ◌<◌, eqb, length, get_or}
use Rattle.std.proofs.Common.{sym, ◌∙◌, arith}
use Rattle.model.specs.Words.{count, row, table}
use Rattle.model.specs.Given.{Poses}
use Rattle.model.specs.Accesses.{Kind, sorted, direct, random, Access, same_kind, times, made, tally}
use Rattle.laws.specs.Passing.{passing, passing_none, passing_one}
use Rattle.laws.specs.Lookups.{once}

-- the numbers of a list, added
unfoldable pub sum : List ℕ → ℕ
sum [] = 0
sum (x ∷ l) = x + sum l

pub sum_append : (l k : List ℕ) → sum (l ++ k) ≡ sum l + sum k
unfolding sum
sum_append [] k = omega arith
sum_append (x ∷ l) k = rw (sum_append l k) (omega arith)

-- a row whose entries are f and g added
pub sum_row : (f g : ℕ → ℕ) (n : ℕ) → sum (row (λ d. f d + g d) n) ≡ sum (row f n) + sum (row g n)
unfolding sum row
sum_row f g zero = refl
sum_row f g (suc n) =
    rw (sum_append (row (λ d. f d + g d) n) ((f n + g n) ∷ []))
    (rw (sum_append (row f n) (f n ∷ []), sum_append (row g n) (g n ∷ [])) (omega (arith, sum_row f g n)))

pub sum_table : (f g : ℕ → ℕ → ℕ) (n m : ℕ)
    → sum (table (λ i d. f i d + g i d) n m) ≡ sum (table f n m) + sum (table g n m)
unfolding sum table
sum_table f g n zero = refl
sum_table f g n (suc m) =
    rw (sum_append (table (λ i d. f i d + g i d) n m) (row (λ d. f m d + g m d) n))
    (rw (sum_append (table f n m) (row (f m) n), sum_append (table g n m) (row (g m) n))
    (omega (arith, sum_table f g n m, sum_row (f m) (g m) n)))

pub none_row : (n : ℕ) → sum (row (λ _. 0) n) ≡ 0
unfolding sum row
none_row zero = refl
none_row (suc n) = rw (sum_append (row (λ _. 0) n) (0 ∷ []), none_row n)

pub none_table : (n m : ℕ) → sum (table (λ _ _. 0) n m) ≡ 0
unfolding sum table
none_table n zero = refl
none_table n (suc m) = rw (sum_append (table (λ _ _. 0) n m) (row (λ _. 0) n), none_table n m, none_row n)

-- a row of tests: how many pass
pub once_row : (t : ℕ → Bool) (n : ℕ) → sum (row (λ d. once (t d)) n) ≡ passing t n
unfolding sum row passing
once_row t zero = refl
once_row t (suc n) = rw (sum_append (row (λ d. once (t d)) n) (once (t n) ∷ []), once_row t n) (omega arith)

-- the row of one list: it holds the 1 where it is the list of the access
once_list : (b : Bool) (p n : ℕ) → p < n → sum (row (λ d. once (b && eqb p d)) n) ≡ once b
once_list true p n h = once_row (eqb p) n ∙ passing_one p n h
once_list false p n h = once_row (λ _. false) n ∙ passing_none (λ _. false) n (λ d l. refl)

pub once_table : (j p n m : ℕ) → p < n → sum (table (λ i d. once (eqb j i && eqb p d)) n m) ≡ passing (eqb j) m
unfolding sum table passing
once_table j p n zero h = refl
once_table j p n (suc m) h =
    rw (
      sum_append (table (λ i d. once (eqb j i && eqb p d)) n m) (row (λ d. once (eqb j m && eqb p d)) n),
      once_table j p n m h,
      once_list (eqb j m) p n h,
    )

-- no entry of two lists, of a row, of a table is above b where no part is
pub append_most : (l k : List ℕ) (b x : ℕ) → ((y : ℕ) → get_or l y 0 ≤ b) → ((y : ℕ) → get_or k y 0 ≤ b)
    → get_or (l ++ k) x 0 ≤ b
append_most [] k b x h j = j x
append_most (a ∷ l) k b zero h j = h 0
append_most (a ∷ l) k b (suc x) h j = append_most l k b x (λ y. h (suc y)) j

one_most : (a b x : ℕ) → a ≤ b → get_or (a ∷ []) x 0 ≤ b
one_most a b zero h = h
one_most a b (suc x) h = omega arith

pub row_most : (f : ℕ → ℕ) (n b x : ℕ) → ((d : ℕ) → d < n → f d ≤ b) → get_or (row f n) x 0 ≤ b
unfolding row
row_most f zero b x h = omega arith
row_most f (suc n) b x h =
    append_most (row f n) (f n ∷ []) b x
    (λ y. row_most f n b y (λ d l. h d (omega arith)))
    (λ y. one_most (f n) b y (h n (omega arith)))

pub table_most : (f : ℕ → ℕ → ℕ) (n m b x : ℕ) → ((i d : ℕ) → i < m → d < n → f i d ≤ b) → get_or (table f n m) x 0 ≤ b
unfolding table
table_most f n zero b x h = omega arith
table_most f n (suc m) b x h =
    append_most (table f n m) (row (f m) n) b x
    (λ y. table_most f n m b y (λ i d hi hd. h i d (omega arith) hd))
    (λ y. row_most (f m) n b y (λ d hd. h m d (omega arith) hd))

-- ---- accesses
-- all accesses lie in the m lists, at the n positions
pub data Inside (s : Poses) : List Access → Type 0 where
  inside_none : Inside s []
  inside_more : {a : Access} {tr : List Access} → a.list < s.m → a.position < s.n → Inside s tr → Inside s (a ∷ tr)

pub inside_append : {s : Poses} {tr more : List Access} → Inside s tr → Inside s more → Inside s (tr ++ more)
inside_append inside_none b = b
inside_append (inside_more l p a) b = inside_more l p (inside_append a b)

-- an access is of one kind
one_kind : (k : Kind) → once (same_kind k sorted) + once (same_kind k direct) + once (same_kind k random) ≡ 1
one_kind sorted = refl
one_kind direct = refl
one_kind random = refl

-- the three counts add up to the number of accesses
pub made_length : (tr : List Access) → made sorted tr + made direct tr + made random tr ≡ length tr
unfolding made count
made_length [] = refl
made_length (a ∷ tr) = omega (arith, one_kind a.kind, made_length tr)

-- and so does the tally
pub tally_length : {s : Poses} {tr : List Access} → Inside s tr → sum (tally s tr) ≡ length tr
unfolding tally times count
tally_length {s} inside_none = none_table s.n s.m
tally_length {s} (inside_more {a} {tr} l p h) =
    let here : ℕ → ℕ → ℕ = λ i d. once (eqb a.list i && eqb a.position d) in
    sum_table here (times tr) s.n s.m
    ∙ omega (arith, once_table a.list a.position s.n s.m p, passing_one a.list s.m l, tally_length h)

pub tally_sum : {s : Poses} {tr : List Access} → Inside s tr
    → made sorted tr + made direct tr + made random tr ≡ sum (tally s tr)
tally_sum {s} {tr} h = made_length tr ∙ sym (tally_length h)
