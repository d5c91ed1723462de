-- A search as the list of its accesses, in the order in which it makes them (docs/SPECIFICATION.md, "Accesses").
--     Kind, Access               a sorted, direct or random access; its list and its position
--     lookup                     an access that finds an item, then one random access for it in each other list
--     row_ta, rows_ta              a row of TA and BPA; their first p rows
--     next, round, rounds        BPA2's turn at a list; a round; the first r rounds
--     row_nra, rows_nra            a row of NRA; its first p rows
-- What is read off a list of accesses:
--     times, visited             how often a position was visited; whether it was
--     met, best                  whether an item was met; a list's best position
--     made, tally                how many accesses of a kind were made; the tally
-- Lists, positions and items count from 0 here. A best position is a number of positions, so it reads as on the page.
use Rattle.std.specs.Prelude.{Bool, true, false, cond, not, ◌&&◌, List, [], ◌∷◌, ◌++◌, ℕ, zero, suc, eqb, leb}
use Rattle.model.specs.Words.{first, some_below, count, table}
use Rattle.model.specs.Given.{Poses, item, place}

-- "A sorted access, a direct access and a random access are three counts"
pub data Kind : Type 0 where
  sorted : Kind
  direct : Kind
  random : Kind

-- one access: its kind, its list and its position
pub record Access : Type 0 where
  pub kind : Kind
  pub list : ℕ
  pub position : ℕ

abbrev pub access : Kind → ℕ → ℕ → Access
access k i p = record { kind = k; list = i; position = p }

-- "one random access in each other list for the item found": for item d, found in list i, in the first j lists
unfoldable pub randoms : Poses → ℕ → ℕ → ℕ → List Access
randoms s d i zero = []
randoms s d i (suc j) = randoms s d i j ++ cond (eqb j i) [] (access random j (place s j d) ∷ [])

-- one access in list i at position p, then the random accesses for the item found, "also if it was met before"
unfoldable pub lookup : Poses → Kind → ℕ → ℕ → List Access
lookup s k i p = access k i p ∷ randoms s (item s i p) i s.m

-- TA, "Row p: in each list, one sorted access at position p, then one random access in each other list": in the first i lists
unfoldable pub row_ta : Poses → ℕ → ℕ → List Access
row_ta s p zero = []
row_ta s p (suc i) = row_ta s p i ++ lookup s sorted i p

-- the first p rows of TA, and of BPA, which reads "as TA"
unfoldable pub rows_ta : Poses → ℕ → List Access
rows_ta s zero = []
rows_ta s (suc p) = rows_ta s p ++ row_ta s p s.m

-- how often list i was visited at position p
unfoldable pub times : List Access → ℕ → ℕ → ℕ
times tr i p = count (λ (a : Access). eqb a.list i && eqb a.position p) tr

-- it was visited, "by either kind of access"
unfoldable pub visited : List Access → ℕ → ℕ → Bool
visited tr i p = leb 1 (times tr i p)

-- an item is met when one of its places was visited
unfoldable pub met : Poses → List Access → ℕ → Bool
met s tr d = some_below (λ i. visited tr i (place s i d)) s.m

-- "its best position: the largest b with all of positions 1 to b visited"
unfoldable pub best : Poses → List Access → ℕ → ℕ
best s tr i = first (λ p. not (visited tr i p)) s.n 0

-- BPA2 at list i: "find its best position as it is now; if it is n, pass over the list; else one direct access at the next
-- position, then one random access in each other list"
unfoldable pub next : Poses → List Access → ℕ → List Access
next s tr i = cond (eqb (best s tr i) s.n) tr (tr ++ lookup s direct i (best s tr i))

-- "Round: for list 1 to m", "earlier lists of this round included": the first i lists
unfoldable pub round : Poses → List Access → ℕ → List Access
round s tr zero = tr
round s tr (suc i) = next s (round s tr i) i

-- the first r rounds of BPA2
unfoldable pub rounds : Poses → ℕ → List Access
rounds s zero = []
rounds s (suc r) = round s (rounds s r) s.m

-- NRA, "Row p: one sorted access in each list at position p": in the first i lists
unfoldable pub row_nra : ℕ → ℕ → List Access
row_nra p zero = []
row_nra p (suc i) = row_nra p i ++ (access sorted i p ∷ [])

-- the first p rows of NRA
unfoldable pub rows_nra : Poses → ℕ → List Access
rows_nra s zero = []
rows_nra s (suc p) = rows_nra s p ++ row_nra p s.m

-- two kinds are the same
abbrev pub same_kind : Kind → Kind → Bool
same_kind sorted sorted = true
same_kind sorted direct = false
same_kind sorted random = false
same_kind direct sorted = false
same_kind direct direct = true
same_kind direct random = false
same_kind random sorted = false
same_kind random direct = false
same_kind random random = true

-- "the numbers of sorted, direct and random accesses": how many of one kind were made
unfoldable pub made : Kind → List Access → ℕ
made k tr = count (λ (a : Access). same_kind a.kind k) tr

-- "Tally: m x n bytes; list i, position p stands at (i-1) x n + p - 1, and says how often that position was visited"
unfoldable pub tally : Poses → List Access → List ℕ
tally s tr = table (times tr) s.n s.m
