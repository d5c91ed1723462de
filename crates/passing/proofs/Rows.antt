-- List by list: what is known once the sweeps have passed i lists, and one list more.
--     own                        a list's own part of a slice, which the sweeps are lent
--     own_rises                   whether its numbers rise
--     own_length, own_at         its length; its entries
--     SweptTo                    after i lists: no score of theirs rises, and their items are noted
--     rows_start, rows_go_on, rows_end       with no list; past one more; at the last
--     row_small, row_clear       what noting list i asks: its items are small, its row is still empty
--     row_rises                  a score of list i that is above the one before it
-- Assumes nothing.
use mathlib.Core.Path.{◌≡◌, refl, sym, ap, ◌∙◌}
use mathlib.Core.Bool.{Bool, true, false}
use mathlib.Core.List.{List, ◌++◌, append-nil}
use Prim.Native.Nat.{ℕ, zero, suc, ◌+◌, ◌-◌, ◌*◌, ◌≤◌, ◌<◌}
use native.Mathlib.Nat.{le_of_eq, not-suc-le-zero}
use native.Mathlib.Numerals.{add-one}
use native.Mathlib.Omega.{arith}
use lib.Dec.{ltb}
use lib.ListN.{length, get_or, replicate, length-replicate, drop_of_length-le}
use lib.Seq.{ext_get_or, get_or-take, get_or-drop}
use borrow.Author.Tests.{ltb-true, ltb-false}
use borrow.Rule.Slice.PartMut.{mid_of, put_mid, mid_len}
use Rattle.model.specs.Words.{some_below, row, table, over}
use Rattle.model.specs.Given.{Poses, item, score}
use Rattle.laws.specs.Tests.{some_found, some_not, below_suc}
use Rattle.laws.specs.Lists.{row_length, row_same, table_length, table_room, over_beyond, over_more, zeros_at}
use Rattle.laws.specs.Marks.{noted}
use Rattle.passing.specs.Clauses.{Sweepable, Rising, Swept}

-- what is noted depends on the items that were passed alone
noted_alike : (f g : ℕ → ℕ) (p d : ℕ) → ((q : ℕ) → q < p → f q ≡ g q) → noted f p d ≡ noted g p d
unfolding noted
noted_alike f g zero d same = refl
noted_alike f g (suc p) d same = rw (same p (omega arith), noted_alike f g p d (λ q l. same q (omega arith)))

-- an entry of a part of a slice
part_at : (from to q : ℕ) (l : List ℕ) → q < to - from → get_or (mid_of from (to - from) l) q 0 ≡ get_or l (from + q) 0
part_at from to q l h = rw (get_or-take, get_or-drop)

-- a list's own part of a slice
abbrev pub own : ℕ → ℕ → List ℕ → List ℕ
own i n l = mid_of (i * n) (i * n + n - i * n) l

-- whether a list's own numbers rise, as the sweep over them tells it
abbrev pub own_rises : ℕ → ℕ → List ℕ → Bool
own_rises i n l = some_below (λ q. ltb (get_or (own i n l) q 0) (get_or (own i n l) (q + 1) 0)) (length (own i n l) - 1)

module _ (i n : ℕ) (l : List ℕ) where
  pub own_at : (q : ℕ) → q < n → get_or (own i n l) q 0 ≡ get_or l (i * n + q) 0
  own_at q h = part_at (i * n) (i * n + n) q l (omega arith)

  module _ (reach : i * n + n ≤ length l) where
    pub own_length : length (own i n l) ≡ n
    own_length = mid_len (i * n) (i * n + n) l reach ∙ omega arith

    -- two neighbours, in the part and in the slice
    neighbours : ℕ → Bool
    neighbours q = ltb (get_or (own i n l) q 0) (get_or (own i n l) (q + 1) 0)

    neighbours_are : (q : ℕ) → suc q < n → neighbours q ≡ ltb (get_or l (i * n + q) 0) (get_or l (i * n + suc q) 0)
    unfolding neighbours
    neighbours_are q h = rw (add-one q, own_at q (omega arith), own_at (suc q) h)

    own_falls : own_rises i n l ≡ false → (q : ℕ) → suc q < n → get_or l (i * n + suc q) 0 ≤ get_or l (i * n + q) 0
    unfolding neighbours
    own_falls none q h =
        let long = own_length in
        let inside : q < length (own i n l) - 1 = omega arith in
        ltb-false (get_or l (i * n + q) 0) (get_or l (i * n + suc q) 0)
        (sym (neighbours_are q h) ∙ some_not neighbours (length (own i n l) - 1) q none inside)

    own_rise_found : own_rises i n l ≡ true → (q : ℕ) × (suc q < n) × (get_or l (i * n + q) 0 < get_or l (i * n + suc q) 0)
    unfolding neighbours
    own_rise_found some =
        let found = some_found neighbours (length (own i n l) - 1) some in
        let q = found.0 in
        let long = own_length in
        let inside : suc q < n = omega (arith, found.1) in
        (q, inside, ltb-true (get_or l (i * n + q) 0) (get_or l (i * n + suc q) 0) (sym (neighbours_are q inside) ∙ found.2))

-- a list's own part of zeros
own_zeros : (i n size : ℕ) → i * n + n ≤ size → own i n (replicate size 0) ≡ replicate n 0
own_zeros i n size h =
    let reach : i * n + n ≤ length (replicate {A = ℕ} size 0) = rw (length-replicate {A = ℕ} size 0) h in
    ext_get_or 0 (own i n (replicate size 0)) (replicate n 0) (own_length i n (replicate size 0) reach ∙ sym (length-replicate n 0))
    (λ q l.
    let inside : q < n = rw (own_length i n (replicate size 0) reach) at l in
    own_at i n (replicate size 0) q inside ∙ zeros_at size (i * n + q) ∙ sym (zeros_at n q))

module _ (s : Poses) where
  -- the notes of list j
  abbrev notes : ℕ → ℕ → ℕ
  notes j = noted (item s j) s.n

  pub record SweptTo (places : List ℕ) (i : ℕ) : Type 0 where
    pub within : i ≤ s.m
    pub falls : (j p : ℕ) → j < i → suc p < s.n → score s j (suc p) ≤ score s j p
    pub rows_are : places ≡ over (table notes s.n i) (replicate (s.m * s.n) 0)

  pub rows_start : {lent : List ℕ} → lent ≡ replicate (s.m * s.n) 0 → SweptTo lent 0
  unfolding table over
  rows_start e = record { within = omega arith; falls = λ j p h. absurd (not-suc-le-zero h); rows_are = e }

  pub rows_end : {places : List ℕ} → SweptTo places s.m → Swept s places
  unfolding over
  rows_end w =
      let size = table_length notes s.n s.m in
      let most : length (replicate {A = ℕ} (s.m * s.n) 0) ≤ length (table notes s.n s.m) =
      omega (arith, length-replicate {A = ℕ} (s.m * s.n) 0) in
      let none = drop_of_length-le (replicate (s.m * s.n) 0) most in
      record { falls = w.falls; notes = w.rows_are ∙ rw none (append-nil (table notes s.n s.m)) }

  module _ {lent places : List ℕ} {i : ℕ} (asked : Sweepable s lent) (w : SweptTo places i) (h : i < s.m) where
    scores_reach : i * s.n + s.n ≤ length s.scores
    scores_reach = omega (arith, table_room i s.m s.n h, asked.within.scores_long)

    pub row_small : (q : ℕ) → q < s.n → get_or (own i s.n s.items) q 0 < s.n
    unfolding item
    row_small q l = rw (own_at i s.n s.items q l) (asked.small i q h l)

    pub row_clear : own i s.n places ≡ replicate s.n 0
    row_clear =
        rw (w.rows_are, over_beyond (table notes s.n i) (replicate (s.m * s.n) 0) (i * s.n) (le_of_eq (table_length notes s.n i)))
        (own_zeros i s.n (s.m * s.n) (table_room i s.m s.n h))

    pub row_rises : own_rises i s.n s.scores ≡ true → Rising s
    unfolding score
    row_rises some =
        let found = own_rise_found i s.n s.scores scores_reach some in
        record { list = i; position = found.0; list_small = h; inside = found.1; above = found.2 }

    pub rows_go_on : (after : List ℕ) → own_rises i s.n s.scores ≡ false
        → after ≡ row (noted (λ q. get_or (own i s.n s.items) q 0) s.n) s.n
        → SweptTo (put_mid (i * s.n) (i * s.n + s.n - i * s.n) places after) (i + 1)
    unfolding table item score
    rows_go_on after none_rises e =
        let same : (q : ℕ) → q < s.n → get_or (own i s.n s.items) q 0 ≡ item s i q = own_at i s.n s.items in
        let after_is : after ≡ row (notes i) s.n =
        e
        ∙ row_same (noted (λ q. get_or (own i s.n s.items) q 0) s.n) (notes i) s.n
        (λ d _. noted_alike (λ q. get_or (own i s.n s.items) q 0) (item s i) s.n d same) in
        let long : length after ≡ s.n = ap length after_is ∙ row_length (notes i) s.n in
        record {
          within = omega arith;
          falls = λ j p before inside.
              below_suc j i (rw (add-one i) at before) (λ l. w.falls j p l inside)
              (λ e. rw e (own_falls i s.n s.scores scores_reach none_rises p inside));
          rows_are = rw (w.rows_are, add-one i)
              (over_more (table notes s.n i) after (replicate (s.m * s.n) 0) (i * s.n) (i * s.n + s.n) (table_length notes s.n i)
              (ap (λ (k : ℕ). i * s.n + k) long)
              ∙ ap (λ (l : List ℕ). over (table notes s.n i ++ l) (replicate (s.m * s.n) 0)) after_is);
        }
