-- The words that the other files are written with. Nothing here speaks of poses.
--     first t f p        the first of p, p + 1, .. that passes the test t
--     some_below t n      one of 0, 1, .., n - 1 passes t
--     every_below t n     each of them does
--     count t l          how many members of the list l pass t
--     row f n            f 0, f 1, .., f (n - 1)
--     table f n m        row (f 0) n, row (f 1) n, .., m of them, joined
--     over l s           l written from the start of the lent slice s; places beyond stay as lent
--     last_of d l         the last member of l, and d where l is empty
--     within a b x       x is a..b
use Rattle.std.specs.Prelude.{Bool, true, false, cond, ◌&&◌, ◌||◌, List, [], ◌∷◌, ◌++◌, ℕ, zero, suc, ◌+◌, leb, length, drop}

-- the first of the f numbers p, p + 1, .. that passes the test; p + f where none does
unfoldable pub first : (ℕ → Bool) → ℕ → ℕ → ℕ
first t zero p = p
first t (suc f) p = let later = first t f (suc p) in cond (t p) p later

-- one of the numbers below n passes the test
unfoldable pub some_below : (ℕ → Bool) → ℕ → Bool
some_below t zero = false
some_below t (suc n) = some_below t n || t n

-- each of the numbers below n passes the test
unfoldable pub every_below : (ℕ → Bool) → ℕ → Bool
every_below t zero = true
every_below t (suc n) = every_below t n && t n

-- how many members of a list pass the test
unfoldable pub count : {A : Type 0} → (A → Bool) → List A → ℕ
count t [] = 0
count t (a ∷ l) = cond (t a) 1 0 + count t l

-- f at each of the numbers below n
unfoldable pub row : {A : Type 0} → (ℕ → A) → ℕ → List A
row f zero = []
row f (suc n) = row f n ++ (f n ∷ [])

-- m rows of n numbers, joined
unfoldable pub table : (ℕ → ℕ → ℕ) → ℕ → ℕ → List ℕ
table f n zero = []
table f n (suc i) = table f n i ++ row (f i) n

-- a list written from the start of a lent slice: places beyond its length stay as lent
unfoldable pub over : List ℕ → List ℕ → List ℕ
over l s = l ++ drop (length l) s

-- the last member of a list, and d where it has none
unfoldable pub last_of : ℕ → List ℕ → ℕ
last_of d [] = d
last_of d (e ∷ l) = last_of e l

-- x is a..b
abbrev pub within : ℕ → ℕ → ℕ → Bool
within a b x = leb a x && leb x b
