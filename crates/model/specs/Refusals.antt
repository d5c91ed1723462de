-- The refusal numbers 1 to 9 and their order (docs/SPECIFICATION.md, "Refusals").
--     Verdict                    accepted, or refused with number, list and position
--     ◌when◌, ◌then◌             a number "given exactly when"; one test after the other: "The first met is the answer"
--     Lent                       everything that a search is lent, as it is at entry
--     pair, weight_of             a big-endian pair of bytes; a list's weight
--     wrong_size .. no_room        the tests 1 to 6, a name each
--     fault, in_list, in_lists     the tests 7, 8, 9 at a position; in a list; "list by list, position by position"
--     search_shape, check_shape    the tests before the list check: of a search, of the list check by itself
--     search_verdict, check_verdict    all tests of a search; of the list check by itself
use Rattle.std.specs.Prelude.{Bool, cond, not, ◌&&◌, ◌||◌, List, ℕ, zero, suc, ◌+◌, ◌-◌, ◌*◌, eqb, leb, ltb, length, get_or}
use Rattle.model.specs.Words.{some_below, within}
use Rattle.model.specs.Given.{Poses, Query, item, score}

infix 20 ◌when◌
infixr 15 ◌then◌
-- accepted, or refused: its number, and list and position, both from 1, or 0, 0
pub data Verdict : Type 0 where
  accepted : Verdict
  refused : ℕ → ℕ → ℕ → Verdict

-- a number of the table, "Given exactly when"; "every other refusal carries 0, 0"
abbrev pub ◌when◌ : ℕ → Bool → Verdict
number when b = cond b (refused number 0 0) accepted

-- one test after the other: "The first met is the answer"
abbrev pub ◌then◌ : Verdict → Verdict → Verdict
accepted then later = later
refused number i p then later = refused number i p

-- Everything that a search is lent, as it is at entry
pub record Lent : Type 0 where
  pub m : ℕ
  pub n : ℕ
  pub rule : ℕ
  pub k : ℕ
  pub weights : List ℕ
  pub items : List ℕ
  pub scores : List ℕ
  pub picks : List ℕ
  pub lows : List ℕ
  pub highs : List ℕ
  pub tally : List ℕ
  pub work : List ℕ

-- "big-endian pairs": the number in the two bytes from an offset on
unfoldable pub pair : List ℕ → ℕ → ℕ
pair b at = get_or b at 0 * 256 + get_or b (at + 1) 0

-- list i's weight in the weights' bytes
unfoldable pub weight_of : List ℕ → ℕ → ℕ
weight_of b i = pair b (2 * i)

-- the pose set and the query of what is lent
unfoldable pub poses_of : Lent → Poses
poses_of l = record { m = l.m; n = l.n; items = l.items; scores = l.scores }

unfoldable pub query_of : Lent → Query
query_of l = record { rule = l.rule; weight = weight_of l.weights }

-- 1: "m is not 1..8 or n not 1..1,024"
unfoldable pub wrong_size : ℕ → ℕ → Bool
wrong_size m n = not (within 1 8 m) || not (within 1 1024 n)

-- 2: "k is 0 or above n"
unfoldable pub wrong_k : ℕ → ℕ → Bool
wrong_k k n = eqb k 0 || ltb n k

-- 3: "rule above 2"
unfoldable pub wrong_rule : ℕ → Bool
wrong_rule rule = ltb 2 rule

-- 4: "weights are not 2m bytes (big-endian pairs), or one is above 1,000"
unfoldable pub wrong_weights : ℕ → List ℕ → Bool
wrong_weights m b = not (eqb (length b) (2 * m)) || some_below (λ i. ltb 1000 (weight_of b i)) m

-- a slice has fewer than so many places
unfoldable pub short : ℕ → List ℕ → Bool
short size b = ltb (length b) size

-- 5: "a list slice is shorter than m x n"
unfoldable pub no_lists : Poses → Bool
no_lists s = short (s.m * s.n) s.items || short (s.m * s.n) s.scores

-- 6: "a slice to be written is too short: under k places for the shortlist, under m x n for the tally, the work slice"
unfoldable pub no_room : Lent → Bool
no_room l =
    short l.k l.picks || short l.k l.lows || short l.k l.highs
    || short (l.m * l.n) l.tally || short (l.m * l.n) l.work

-- 7: "an item is n or more"
unfoldable pub not_item : Poses → ℕ → ℕ → Bool
not_item s i p = leb s.n (item s i p)

-- 8: "an item stood earlier in this list"
unfoldable pub stood_earlier : Poses → ℕ → ℕ → Bool
stood_earlier s i p = some_below (λ q. eqb (item s i q) (item s i p)) p

-- 9: "a score is above the one before it in this list"
unfoldable pub rises : Poses → ℕ → ℕ → Bool
rises s i p = ltb 0 p && ltb (score s i (p - 1)) (score s i p)

-- "A refusal met at a position, as 7 to 9 are, carries list and position, both from 1"
unfoldable pub standing : ℕ → ℕ → Verdict → Verdict
standing i p accepted = accepted
standing i p (refused number _ _) = refused number (i + 1) (p + 1)

-- "7, 8, 9 at each" position: at position p of list i
unfoldable pub fault : Poses → ℕ → ℕ → Verdict
fault s i p = standing i p (7 when not_item s i p then 8 when stood_earlier s i p then 9 when rises s i p)

-- the first refusal among those of 0, 1, .., n - 1
unfoldable pub first_refusal : (ℕ → Verdict) → ℕ → Verdict
first_refusal f zero = accepted
first_refusal f (suc i) = first_refusal f i then f i

-- "position by position": in list i
unfoldable pub in_list : Poses → ℕ → Verdict
in_list s i = first_refusal (fault s i) s.n

-- "list by list"
unfoldable pub in_lists : Poses → Verdict
in_lists s = first_refusal (in_list s) s.m

-- "A search tests 1, 2, 3, 4, 5, 6"
unfoldable pub search_shape : Lent → Verdict
search_shape l =
    1 when wrong_size l.m l.n
    then 2 when wrong_k l.k l.n
    then 3 when wrong_rule l.rule
    then 4 when wrong_weights l.m l.weights
    then 5 when no_lists (poses_of l)
    then 6 when no_room l

-- "then list by list, position by position, 7, 8, 9 at each"
unfoldable pub search_verdict : Lent → Verdict
search_verdict l = search_shape l then in_lists (poses_of l)

-- "Called by itself, the list check takes m, n, the two list slices and the work slice; it tests 1, 5 and 6"
unfoldable pub check_shape : Poses → List ℕ → Verdict
check_shape s work = 1 when wrong_size s.m s.n then 5 when no_lists s then 6 when short (s.m * s.n) work

-- "then 7 to 9 as above"
unfoldable pub check_verdict : Poses → List ℕ → Verdict
check_verdict s work = check_shape s work then in_lists s
