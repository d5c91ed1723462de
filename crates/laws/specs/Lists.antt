-- Laws of the lists that the definitions are written with: `row`, `table`, `count`, `over`.
--     row_length, row_at, row_same       a row's length, its entries, two rows with the same entries
--     row_set, row_zeros                 a store into a row; a row of zeros
--     table_length, table_at             a table's length and its entries
--     table_room                         list i's row lies within the table
--     table_zeros                        a table of zeros
--     table_same, table_set, table_of    two tables with the same entries; a store into a table; any long enough slice as a table
--     two_places                         two entries of a table at one place are one entry
--     count_append, count_set            a count over two lists; after a store that makes one more pass
--     count_kept                         after a store of one that passes over one that passes
--     count_full, count_all              where a count is the whole length, each entry passes; where each passes, it is
--     map_at, map_take, map_drop, map_join       an entry of a mapped list; a part of one; of two joined
--     over_length, over_at               a slice written over keeps its length; what stands in its first part
--     over_map_at, over_beyond           the same of a mapped list; what stands past the first part
--     over_more, over_part               after l, as many entries as ys has; the first part, as many entries as l has
--     fill_more                          one entry more in a slice that is filled from its start
--     over_over, over_taken              a list written over one that is as long; the first part read back
--     zeros_at                           an entry of zeros, or past their end
-- Assumes nothing.
use Rattle.std.specs.Prelude.{◌≡◌, refl, Bool, true, false, cond, ◌&&◌, ◌≢◌, List, [], ◌∷◌, ◌++◌, map, ℕ, zero, suc, ◌+◌, ◌-◌, ◌*◌, ◌≤◌, ◌<◌, eqb, ltb, length, get_or, set, take, drop, replicate}
use Rattle.std.proofs.Common.{sym, ap, ◌∙◌, true≢false, append_assoc, zero-mul, suc-mul, mul-le-mul_right, not-suc-le-zero, le_of_suc-le-suc, add-one, arith, eqb-true, eq-eqb, ltb-true, ltb-false, take-append-drop, length-append, length-drop, length-set, ext_get_or, drop-cons, length-take-le, drop-drop, get_or-take, get_or-append-add, get_or-set_same, get_or-set_other}
use Rattle.std.proofs.lemmas.Bool.{eqb-false}
use Rattle.std.proofs.lemmas.List.{length-map, replicate-append-replicate, set_at}
use Rattle.std.proofs.Math.ListN.{get_or-append}
use Rattle.std.proofs.Math.Seq.{drop-append-add, drop-append_seam, take-append_seam, get_or-append_seam}
use borrow.Rule.Slice.PartMut.{put_mid}
use Rattle.model.specs.Words.{count, row, table, over}
use Rattle.laws.specs.Tests.{by_cases, below_suc, and_yes}

-- ---- row
pub row_length : {A : Type 0} (f : ℕ → A) (n : ℕ) → length (row f n) ≡ n
unfolding row
row_length f zero = refl
row_length f (suc n) = rw (length-append, row_length f n) (omega arith)

pub row_at : {A : Type 0} (f : ℕ → A) (n i : ℕ) (x : A) → i < n → get_or (row f n) i x ≡ f i
unfolding row
row_at f zero i x h = absurd (not-suc-le-zero h)
row_at f (suc n) i x h =
    below_suc i n h
    (λ (l : i < n). get_or-append (row f n) (f n ∷ []) x i (rw row_length l) ∙ row_at f n i x l)
    (λ (e : i ≡ n). rw e (ap (λ (j : ℕ). get_or (row f n ++ (f n ∷ [])) j x) (sym (row_length f n)) ∙ get_or-append_seam (row f n) (f n) [] x))

pub row_same : {A : Type 0} (f g : ℕ → A) (n : ℕ) → ((i : ℕ) → i < n → f i ≡ g i) → row f n ≡ row g n
unfolding row
row_same f g zero h = refl
row_same f g (suc n) h = rw (row_same f g n (λ i l. h i (omega arith)), h n (omega arith))

-- a store into a row: the function is changed at one number
pub row_set : (f : ℕ → ℕ) (n d v : ℕ) → d < n → set (row f n) d v ≡ row (λ e. cond (eqb d e) v (f e)) n
row_set f n d v h =
    ext_get_or 0 (set (row f n) d v) (row (λ e. cond (eqb d e) v (f e)) n)
    (length-set (row f n) d v ∙ row_length f n ∙ sym (row_length (λ e. cond (eqb d e) v (f e)) n))
    (λ i l.
    let l' : i < n = rw (length-set, row_length) at l in
    by_cases (eqb d i)
    (λ (y : eqb d i ≡ true).
    let e : d ≡ i = eqb-true d i y in
    rw (row_at (λ e. cond (eqb d e) v (f e)) n i 0 l', y, ← e) (get_or-set_same (row f n) d v 0 (rw row_length h)))
    (λ (z : eqb d i ≡ false).
    rw (row_at (λ e. cond (eqb d e) v (f e)) n i 0 l', z)
    (get_or-set_other (row f n) d i v 0 (λ (e : i ≡ d). eqb-false d i z (sym e)) ∙ row_at f n i 0 l')))

pub row_zeros : (n : ℕ) → row {A = ℕ} (λ _. 0) n ≡ replicate n 0
unfolding row
row_zeros zero = refl
row_zeros (suc n) = rw (row_zeros n) (replicate-append-replicate n 1 0 ∙ ap (λ (k : ℕ). replicate k 0) (add-one n))

-- ---- table
pub table_length : (f : ℕ → ℕ → ℕ) (n m : ℕ) → length (table f n m) ≡ m * n
unfolding table
table_length f n zero = sym (zero-mul n)
table_length f n (suc i) = rw (length-append, table_length f n i, row_length, suc-mul)

-- list i's row lies within the table
pub table_room : (i m n : ℕ) → i < m → i * n + n ≤ m * n
table_room i m n h = let r : suc i * n ≤ m * n = mul-le-mul_right n h in rw suc-mul at r

pub table_at : (f : ℕ → ℕ → ℕ) (n m i d x : ℕ) → i < m → d < n → get_or (table f n m) (i * n + d) x ≡ f i d
unfolding table
table_at f n zero i d x h l = absurd (not-suc-le-zero h)
table_at f n (suc m) i d x h l =
    below_suc i m h
    (λ (k : i < m).
    let r : i * n + d < length (table f n m) = omega (arith, table_length f n m, table_room i m n k) in
    get_or-append (table f n m) (row (f m) n) x (i * n + d) r ∙ table_at f n m i d x k l)
    (λ (e : i ≡ m).
    rw (e, ← (table_length f n m)) (get_or-append-add (table f n m) (row (f m) n) d x ∙ row_at (f m) n d x l))

pub table_same : (f g : ℕ → ℕ → ℕ) (n m : ℕ) → ((i d : ℕ) → i < m → d < n → f i d ≡ g i d) → table f n m ≡ table g n m
unfolding table
table_same f g n zero h = refl
table_same f g n (suc m) h =
    rw (table_same f g n m (λ i d hi hd. h i d (omega arith) hd), row_same (f m) (g m) n (λ d hd. h m d (omega arith) hd))

pub table_zeros : (n m : ℕ) → table (λ _ _. 0) n m ≡ replicate (m * n) 0
unfolding table
table_zeros n zero = ap (λ (k : ℕ). replicate k 0) (sym (zero-mul n))
table_zeros n (suc m) =
    rw (table_zeros n m, row_zeros n) (replicate-append-replicate (m * n) n 0 ∙ ap (λ (k : ℕ). replicate k 0) (sym (suc-mul m n)))

-- two entries of a table that stand at one place are one entry
pub two_places : (n i j p q : ℕ) → p < n → q < n → i * n + p ≡ j * n + q → (i ≡ j) × (p ≡ q)
two_places n i j p q hp hq e =
    by_cases (ltb i j)
    (λ (y : ltb i j ≡ true). absurd (omega (arith, table_room i j n (ltb-true i j y))))
    (λ (z : ltb i j ≡ false).
    by_cases (ltb j i)
    (λ (y : ltb j i ≡ true). absurd (omega (arith, table_room j i n (ltb-true j i y))))
    (λ (w : ltb j i ≡ false).
    let same : i ≡ j = omega (arith, ltb-false i j z, ltb-false j i w) in
    (same, let e' : j * n + p ≡ j * n + q = rw same at e in omega arith)))

-- a number below m x n as a place of a table
pub place_of : (n m x : ℕ) → x < m * n → (i : ℕ) × (d : ℕ) × (i < m) × (d < n) × (x ≡ i * n + d)
place_of n zero x h = absurd (not-suc-le-zero (rw (zero-mul n) at h))
place_of n (suc m) x h =
    by_cases (ltb x (m * n))
    (λ (y : ltb x (m * n) ≡ true).
    let r = place_of n m x (ltb-true x (m * n) y) in
    (r.0, r.1, omega (arith, r.2), r.3, r.4))
    (λ (z : ltb x (m * n) ≡ false).
    let h' : x < m * n + n = rw (suc-mul m n) at h in
    (m, x - m * n, omega arith, omega (arith, ltb-false x (m * n) z), omega (arith, ltb-false x (m * n) z)))

-- two lists that are as long as a table and have its entries
table_is : (f : ℕ → ℕ → ℕ) (n m : ℕ) (l : List ℕ) → length l ≡ m * n
    → ((i d : ℕ) → i < m → d < n → get_or l (i * n + d) 0 ≡ f i d) → l ≡ table f n m
table_is f n m l size h =
    ext_get_or 0 l (table f n m) (size ∙ sym (table_length f n m))
    (λ x hx.
    let r = place_of n m x (rw size at hx) in
    rw r.4 (h r.0 r.1 r.2 r.3 ∙ sym (table_at f n m r.0 r.1 0 r.2 r.3)))

-- a store into a table: the function is changed at one place
pub table_set : (f : ℕ → ℕ → ℕ) (n m i d v : ℕ) → i < m → d < n
    → set (table f n m) (i * n + d) v ≡ table (λ j e. cond (eqb i j && eqb d e) v (f j e)) n m
table_set f n m i d v hi hd =
    let g : ℕ → ℕ → ℕ = λ j e. cond (eqb i j && eqb d e) v (f j e) in
    let inside : i * n + d < length (table f n m) = omega (arith, table_length f n m, table_room i m n hi) in
    table_is g n m (set (table f n m) (i * n + d) v)
    (length-set (table f n m) (i * n + d) v ∙ table_length f n m)
    (λ j e hj he.
    by_cases (eqb i j && eqb d e)
    (λ (y : (eqb i j && eqb d e) ≡ true).
    let p = and_yes (eqb i j) (eqb d e) y in
    rw (y, ← (eqb-true i j p.0), ← (eqb-true d e p.1)) (get_or-set_same (table f n m) (i * n + d) v 0 inside))
    (λ (z : (eqb i j && eqb d e) ≡ false).
    let apart : j * n + e ≢ i * n + d =
    λ same. let r = two_places n j i e d he hd same in
    true≢false (sym (rw (eq-eqb i j (sym r.0), eq-eqb d e (sym r.1))) ∙ z) in
    rw z (get_or-set_other (table f n m) (i * n + d) (j * n + e) v 0 apart ∙ table_at f n m j e 0 hj he)))

-- any slice that is long enough is a table of its own entries, written over itself
pub table_of : (n m : ℕ) (l : List ℕ) → m * n ≤ length l → l ≡ over (table (λ i d. get_or l (i * n + d) 0) n m) l
unfolding over
table_of n m l h =
    let f : ℕ → ℕ → ℕ = λ i d. get_or l (i * n + d) 0 in
    let front : take (m * n) l ≡ table f n m =
    table_is f n m (take (m * n) l) (length-take-le (m * n) l h)
    (λ i d hi hd. get_or-take (m * n) l (i * n + d) 0 (omega (arith, table_room i m n hi))) in
    sym (take-append-drop (m * n) l) ∙ ap (λ (a : List ℕ). a ++ drop (m * n) l) front
    ∙ ap (λ (c : ℕ). table f n m ++ drop c l) (sym (table_length f n m))

-- ---- count
pub count_append : {A : Type 0} (t : A → Bool) (l k : List A) → count t (l ++ k) ≡ count t l + count t k
unfolding count
count_append t [] k = omega arith
count_append t (a ∷ l) k = rw (count_append t l k) (omega arith)

pub count_most : {A : Type 0} (t : A → Bool) (l : List A) → count t l ≤ length l
unfolding count
count_most t [] = omega arith
count_most t (a ∷ l) =
    by_cases (t a)
    (λ (y : t a ≡ true). rw y (omega (arith, count_most t l)))
    (λ (n : t a ≡ false). rw n (omega (arith, count_most t l)))

-- a store that makes an entry pass, where none passed before
pub count_set : {A : Type 0} (t : A → Bool) (l : List A) (d : ℕ) (v x : A) → d < length l → t (get_or l d x) ≡ false
    → t v ≡ true → count t (set l d v) ≡ count t l + 1
unfolding count
count_set t [] d v x h n y = absurd (not-suc-le-zero h)
count_set t (a ∷ l) zero v x h n y = rw (n, y) (omega arith)
count_set t (a ∷ l) (suc d) v x h n y = rw (count_set t l d v x (le_of_suc-le-suc h) n y) (omega arith)

-- after a store of one that passes over one that passes
pub count_kept : {A : Type 0} (t : A → Bool) (l : List A) (d : ℕ) (v x : A) → d < length l → t (get_or l d x) ≡ true
    → t v ≡ true → count t (set l d v) ≡ count t l
unfolding count
count_kept t [] d v x h w y = absurd (not-suc-le-zero h)
count_kept t (a ∷ l) zero v x h w y = rw (w, y)
count_kept t (a ∷ l) (suc d) v x h w y = rw (count_kept t l d v x (le_of_suc-le-suc h) w y)

-- as many passing as there are entries: the first passes, and so do the others
count_full_cons : {A : Type 0} (t : A → Bool) (a : A) (l : List A) → count t (a ∷ l) ≡ suc (length l)
    → (t a ≡ true) × (count t l ≡ length l)
unfolding count
count_full_cons t a l e =
    by_cases (t a)
    (λ (y : t a ≡ true). let e' : 1 + count t l ≡ suc (length l) = rw y at e in (y, omega arith))
    (λ (n : t a ≡ false). let e' : 0 + count t l ≡ suc (length l) = rw n at e in absurd (omega (arith, count_most t l)))

pub count_full : {A : Type 0} (t : A → Bool) (l : List A) (d : ℕ) (x : A) → count t l ≡ length l → d < length l
    → t (get_or l d x) ≡ true
count_full t [] d x e h = absurd (not-suc-le-zero h)
count_full t (a ∷ l) zero x e h = (count_full_cons t a l e).0
count_full t (a ∷ l) (suc d) x e h = count_full t l d x (count_full_cons t a l e).1 (le_of_suc-le-suc h)

-- where each entry passes, a count is the whole length
pub count_all : {A : Type 0} (t : A → Bool) (l : List A) (x : A) → ((d : ℕ) → d < length l → t (get_or l d x) ≡ true)
    → count t l ≡ length l
unfolding count
count_all t [] x h = refl
count_all t (a ∷ l) x h =
    rw (h 0 (omega arith), count_all t l x (λ d below. h (suc d) (omega arith))) (omega arith)

-- ---- map
pub map_at : (f : ℕ → ℕ) (l : List ℕ) (j : ℕ) → j < length l → get_or (map f l) j 0 ≡ f (get_or l j 0)
map_at f [] j h = absurd (not-suc-le-zero h)
map_at f (x ∷ l) zero h = refl
map_at f (x ∷ l) (suc j) h = map_at f l j (le_of_suc-le-suc h)

pub map_take : (f : ℕ → ℕ) (k : ℕ) (l : List ℕ) → map f (take k l) ≡ take k (map f l)
map_take f zero l = refl
map_take f (suc k) [] = refl
map_take f (suc k) (x ∷ l) = ap (λ (t : List ℕ). f x ∷ t) (map_take f k l)

pub map_drop : (f : ℕ → ℕ) (k : ℕ) (l : List ℕ) → map f (drop k l) ≡ drop k (map f l)
map_drop f zero l = refl
map_drop f (suc k) [] = refl
map_drop f (suc k) (x ∷ l) = map_drop f k l

pub map_join : (f : ℕ → ℕ) (l k : List ℕ) → map f (l ++ k) ≡ map f l ++ map f k
map_join f [] k = refl
map_join f (x ∷ l) k = ap (λ (t : List ℕ). f x ∷ t) (map_join f l k)

-- ---- over
pub over_length : (l s : List ℕ) → length l ≤ length s → length (over l s) ≡ length s
unfolding over
over_length l s h = rw (length-append, length-drop) (omega arith)

pub over_at : (l s : List ℕ) (i x : ℕ) → i < length l → get_or (over l s) i x ≡ get_or l i x
unfolding over
over_at l s i x h = get_or-append l (drop (length l) s) x i h

pub over_map_at : (f : ℕ → ℕ) (l s : List ℕ) (i : ℕ) → i < length l → get_or (over (map f l) s) i 0 ≡ f (get_or l i 0)
over_map_at f l s i h = over_at (map f l) s i 0 (rw length-map h) ∙ map_at f l i h

pub over_beyond : (l s : List ℕ) (c : ℕ) → length l ≤ c → drop c (over l s) ≡ drop c s
unfolding over
over_beyond l s c h =
    let sum : length l + (c - length l) ≡ c = omega arith in
    ap (λ (b : ℕ). drop b (l ++ drop (length l) s)) (sym sum)
    ∙ drop-append-add l (drop (length l) s) (c - length l)
    ∙ drop-drop (c - length l) (length l) s
    ∙ ap (λ (b : ℕ). drop b s) sum

pub over_more : (l ys s : List ℕ) (a e : ℕ) → length l ≡ a → a + length ys ≡ e → put_mid a (e - a) (over l s) ys ≡ over (l ++ ys) s
unfolding over
over_more l ys s a e la le =
    let size : e - a ≡ length ys = omega arith in
    let front : take a (l ++ drop (length l) s) ≡ l = rw (← la) (take-append_seam l (drop (length l) s)) in
    let rest : drop a (l ++ drop (length l) s) ≡ drop (length l) s = rw (← la) (drop-append_seam l (drop (length l) s)) in
    rw (front, rest, size, drop-drop, length-append) (sym (append_assoc l ys (drop (length l + length ys) s)))

pub over_part : (l s : List ℕ) (k : ℕ) → length l ≡ k → put_mid 0 (k - 0) s l ≡ over l s
unfolding over
over_part l s k size = over_more [] l s 0 k refl (omega (arith, size))

pub fill_more : (f : ℕ → ℕ) (q : ℕ) (lent : List ℕ) → q < length lent
    → set (over (row f q) lent) q (f q) ≡ over (row f (suc q)) lent
unfolding over row
fill_more f q lent h =
    rw (length-append, row_length f q, drop-cons lent q 0 h)
    (set_at (row f q) (get_or lent q 0) (drop (suc q) lent) (f q) q (row_length f q)
    ∙ rw (append_assoc, add-one))

pub over_over : (l k s : List ℕ) → length l ≡ length k → over l (over k s) ≡ over l s
unfolding over
over_over l k s e = rw e (ap (λ (t : List ℕ). l ++ t) (drop-append_seam k (drop (length k) s)))

pub over_taken : (l s : List ℕ) (k : ℕ) → length l ≡ k → take k (over l s) ≡ l
unfolding over
over_taken l s k e = rw (← e) (take-append_seam l (drop (length l) s))

-- ---- zeros
pub zeros_at : (n i : ℕ) → ◌≡◌ {A = ℕ} (get_or (replicate n 0) i 0) 0
zeros_at zero i = refl
zeros_at (suc n) zero = refl
zeros_at (suc n) (suc i) = zeros_at n i
