-- The entries of `met` one after the other: the first k of the items that reach the bar, among the first c entries and then among c + 1.
--     front_none, front_in, front_out    of no entry; of one entry more, that reaches the bar or not
--     front_new                          an item that is none of the entries is not there
--     passed_none, passed_in, passed_out     the same in the three slices
--     passed_most                    there are at most k
--     mark_reaches, mark_low         an item's mark tells whether it reaches the bar, and its low
--     considered_in, considered_out  an item whose mark is above the bar, or not
--     front_all                      of all entries: of all items that reach the bar
--     front_held, listed_all         where `bar` is the k-th low, or fewer than k items are met and it is 0: the first k of all met items
-- Assumes nothing.
use mathlib.Core.Path.{◌≡◌, refl, sym, ap, ◌∙◌}
use mathlib.Core.Bool.{Bool, true, false, ◌&&◌, and-true, and-false, true≢false}
use mathlib.Core.List.{List, []}
use Prim.Native.Nat.{ℕ, suc, ◌+◌, ◌-◌, ◌≤◌, ◌<◌}
use native.Mathlib.Numerals.{add-one}
use native.Mathlib.Omega.{arith}
use lib.Dec.{eqb, leb, ltb}
use lib.ListN.{get_or, take, length-take}
use lib.Seq.{take-nil}
use borrow.Author.Tests.{eqb-true, eqb-false, leb-true, leb-false, le-leb, le-ltb, lt-ltb, ltb-true}
use Rattle.model.specs.Searches.{ahead, insert, ranked, among}
use Rattle.laws.specs.Tests.{by_cases, and_yes}
use Rattle.laws.specs.Ahead.{never, ahead_ordering, ahead_is, by_low}
use Rattle.laws.specs.Ranking.{take_insert, ranked_none, ranked_same, ranked_more}
use Rattle.laws.specs.Kept.{kept_item, kept_front}
use Rattle.halting.specs.Bar.{held}
use Rattle.meeting.specs.Clauses.{View, bound_of}
use Rattle.halting.specs.Clauses.{met_of, Legible, mark_of, Marked, in_first, Listed}
use Rattle.halting.specs.Marks.{mark_above, reach_is}
use Rattle.halting.specs.Gathering.{first_none, first_more, one_more, none_more}
use Rattle.blocking.specs.Clauses.{Kth}
use Rattle.meeting.specs.Shortlist.{Inserted}
use Rattle.meeting.specs.Keeping.{listing_none}
use Rattle.ranking.specs.Clauses.{held_of, reaches_of, front_of, HeldIn, FrontIn, Considered}

module _ (v : View) (k p bar : ℕ) (met : List ℕ) where
  abbrev before : ℕ → ℕ → Bool
  before = ahead (bound_of v false p) (bound_of v true p)

  -- an item is among the first c entries and reaches the bar
  abbrev passed : ℕ → ℕ → Bool
  passed c d = in_first met c d && reaches_of v p bar d

  front_none : front_of v k p bar met 0 ≡ []
  unfolding front_of held
  front_none = ap (take k) (ranked_none before (passed 0) v.n (λ d. rw (first_none met d))) ∙ take-nil k

  module _ (c d : ℕ) (next : get_or met c 0 ≡ d) where
    front_in : d < v.n → in_first met c d ≡ false → reaches_of v p bar d ≡ true
        → front_of v k p bar met (suc c) ≡ take k (insert before d (front_of v k p bar met c))
    unfolding front_of held
    front_in small new y =
        ap (take k)
        (ranked_more before (ahead_ordering (bound_of v false p) (bound_of v true p)) (passed c) (passed (suc c)) v.n d small (rw new)
        (λ x _. rw (first_more met c x, next)
        (one_more (in_first met c x) (eqb x d) (reaches_of v p bar x) (λ (e : eqb x d ≡ true). rw (eqb-true x d e) y))))
        ∙ take_insert before k d (ranked before (passed c) v.n)

    front_out : reaches_of v p bar d ≡ false → front_of v k p bar met (suc c) ≡ front_of v k p bar met c
    unfolding front_of held
    front_out z =
        ap (take k)
        (ranked_same before before (passed (suc c)) (passed c) v.n
        (λ x _. rw (first_more met c x, next)
        (none_more (in_first met c x) (eqb x d) (reaches_of v p bar x) (λ (e : eqb x d ≡ true). rw (eqb-true x d e) z)))
        (λ x e _ _ _ _. refl))

  front_new : (c d : ℕ) → in_first met c d ≡ false → among d (front_of v k p bar met c) ≡ false
  unfolding front_of held
  front_new c d new =
      never (among d (front_of v k p bar met c))
      (λ y. true≢false (sym (and_yes (in_first met c d) (reaches_of v p bar d) (kept_item before (passed c) v.n k d y).1).0 ∙ new))

  pub passed_none : (picks lows highs : List ℕ) → FrontIn v k p bar met 0 picks lows highs 0 picks lows highs
  passed_none picks lows highs =
      record { listing = rw front_none (listing_none (bound_of v false p) (bound_of v true p) picks lows highs) }

  module _ {picks₀ lows₀ highs₀ picks lows highs : List ℕ} {c filled : ℕ}
      (at : FrontIn v k p bar met c picks₀ lows₀ highs₀ filled picks lows highs) where
    pub passed_most : filled ≤ k
    unfolding front_of held
    passed_most = omega (arith, at.listing.filled_is, length-take k (ranked before (passed c) v.n))

    module _ (d : ℕ) (next : get_or met c 0 ≡ d) where
      passed_in : {low high r : ℕ} {picks' lows' highs' : List ℕ} → d < v.n → in_first met c d ≡ false → reaches_of v p bar d ≡ true
          → low ≡ bound_of v false p d → high ≡ bound_of v true p d → Inserted d low high k filled picks lows highs r picks' lows' highs'
          → FrontIn v k p bar met (c + 1) picks₀ lows₀ highs₀ r picks' lows' highs'
      passed_in small apart y low_is high_is new =
          record {
            listing =
                rw (add-one c, front_in c d next small apart y)
                (new.inserts (bound_of v false p) (bound_of v true p) (front_of v k p bar met c) picks₀ lows₀ highs₀ low_is high_is
                (front_new c d apart) at.listing);
          }

      passed_out : reaches_of v p bar d ≡ false → FrontIn v k p bar met (c + 1) picks₀ lows₀ highs₀ filled picks lows highs
      passed_out z = record { listing = rw (add-one c, front_out c d next z) at.listing }

-- ---- one item, by its mark
module _ {v : View} {p d : ℕ} {marks : List ℕ} (w : Legible v p) (noted : Marked v p marks) (inside : d < v.n) where
  mark_reaches : (bar : ℕ) → reaches_of v p bar d ≡ ltb bar (get_or marks d 0)
  unfolding reaches_of
  mark_reaches bar = rw (noted.marks_are d inside) (sym (mark_above w bar d))

  mark_low : 1 ≤ get_or marks d 0 → get_or marks d 0 - 1 ≡ bound_of v false p d
  unfolding mark_of
  mark_low some =
      by_cases (met_of v p d)
      (λ (y : met_of v p d ≡ true).
      let mark : get_or marks d 0 ≡ bound_of v false p d + 1 = rw y at (noted.marks_are d inside) in
      omega arith)
      (λ (z : met_of v p d ≡ false).
      let none : get_or marks d 0 ≡ 0 = rw z at (noted.marks_are d inside) in
      absurd (omega arith))

  module _ {k bar filled : ℕ} {picks lows highs : List ℕ} where
    pub considered_out : get_or marks d 0 ≤ bar → Considered v k p bar d filled picks lows highs filled picks lows highs
    considered_out h =
        record {
          considers = λ met c picks₀ lows₀ highs₀ next new at.
              passed_out v k p bar met at d next (mark_reaches bar ∙ le-ltb bar (get_or marks d 0) h);
        }

    pub considered_in : {high r : ℕ} {picks' lows' highs' : List ℕ} → bar < get_or marks d 0 → high ≡ bound_of v true p d
        → Inserted d (get_or marks d 0 - 1) high k filled picks lows highs r picks' lows' highs'
        → Considered v k p bar d filled picks lows highs r picks' lows' highs'
    considered_in h high_is new =
        record {
          considers = λ met c picks₀ lows₀ highs₀ next apart at.
              passed_in v k p bar met at d next inside apart (mark_reaches bar ∙ lt-ltb bar (get_or marks d 0) h) (mark_low (omega arith))
              high_is new;
        }

-- ---- all entries passed
module _ {v : View} {k p top count : ℕ} {marks met : List ℕ} (w : Legible v p) (noted : Marked v p marks) (kth : Kth v.n k marks top)
    (g : Listed v.n marks met count) where
  abbrev bar : ℕ
  bar = top - 1

  -- an item that reaches the bar has a mark, so it is an entry
  front_all : front_of v k p bar met count ≡ held v.n k (bound_of v false p) (bound_of v true p) (reaches_of v p bar)
  unfolding front_of held
  front_all =
      let before = ahead (bound_of v false p) (bound_of v true p) in
      ap (take k)
      (ranked_same before before (λ d. in_first met count d && reaches_of v p bar d) (reaches_of v p bar) v.n
      (λ d hd.
      by_cases (reaches_of v p bar d)
      (λ (y : reaches_of v p bar d ≡ true).
      let above = ltb-true bar (get_or marks d 0) (sym (mark_reaches w noted hd bar) ∙ y) in
      rw (y, g.met_are d hd, lt-ltb 0 (get_or marks d 0) (omega arith)))
      (λ (z : reaches_of v p bar d ≡ false). rw z (and-false (in_first met count d))))
      (λ d e _ _ _ _. refl))

  -- an item left out is not among the first k: k others reach the bar, and each stands ahead of it
  front_held : front_of v k p bar met count ≡ held_of v k p
  unfolding held_of held reaches_of
  front_held =
      let low = bound_of v false p in
      let before = ahead low (bound_of v true p) in
      front_all
      ∙ by_cases (eqb top 0)
      (λ y.
      let none : bar ≡ 0 = omega (arith, eqb-true top 0 y) in
      ap (take k)
      (ranked_same before before (λ d. met_of v p d && leb bar (low d)) (met_of v p) v.n
      (λ d _. rw (le-leb bar (low d) (omega arith)) (and-true (met_of v p d)))
      (λ d e _ _ _ _. refl)))
      (λ z.
      sym
      (kept_front before (ahead_ordering low (bound_of v true p)) (λ d. leb bar (low d))
      (λ d e a b. ahead_is low (bound_of v true p) (by_low (omega (arith, leb-true bar (low d) a, leb-false bar (low e) b))))
      (met_of v p) v.n k
      (omega (arith, (kth.barred (omega (arith, eqb-false top 0 z))).reached, reach_is w noted bar))))

  pub listed_all : {picks₀ lows₀ highs₀ picks lows highs : List ℕ} {filled : ℕ}
      → FrontIn v k p bar met count picks₀ lows₀ highs₀ filled picks lows highs
      → HeldIn v k p picks₀ lows₀ highs₀ filled picks lows highs
  listed_all at = record { listing = rw front_held at at.listing }
