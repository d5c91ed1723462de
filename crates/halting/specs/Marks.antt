-- Items' marks, the k-th low, and NRA's test by it.
--     read_most, bound_most  how large a local score and a bound are
--     low_below_high         a low is at most the high
--     mark_above             a mark is above a bar: the item is met and its low reaches the bar
--     reach_is               how many marks are above a bar: how many met items' lows reach it
--     blocks_not             an item stands in the way exactly where it fails its part of the test
--     unmet_high             the high of an item that is not met is the threshold of the row
--     unmet_blocks, unmet_passes     so all such items stand in the way, or none does
--     halts_few              fewer than k marks: the test fails
--     halts_not, halts_yes   else the highest bar that k marks are above tells: an item stands in the way; none does, and few highs are above
--     halts_unmet            some item is not met, and such items stand in the way
--     halts_reach            none does, and no more than k marks are above it
-- Assumes nothing.
use Rattle.std.specs.Prelude.{◌≡◌, refl, Bool, not, ◌&&◌, ◌||◌, List, replicate}
use Rattle.std.proofs.Math.Path.{sym}
use Rattle.std.proofs.Common.{◌∙◌}
use Rattle.std.proofs.Math.Bool.{true, false, and-true, true≢false}
use Prim.Native.Nat.{ℕ, suc, ◌+◌, ◌-◌, ◌*◌, ◌≤◌, ◌<◌}
use Rattle.std.proofs.Math.Nat.{mul-le-mul_right}
use native.Mathlib.Omega.{arith}
use Rattle.std.proofs.Math.Dec.{leb, ltb}
use Rattle.std.proofs.Math.ListN.{get_or, get_or-replicate}
use borrow.Author.Tests.{leb-true, leb-false, le-leb, ltb-true, ltb-false, lt-ltb, le-ltb, not-true, not-false}
use Rattle.model.specs.Words.{last_of}
use Rattle.laws.specs.Tests.{by_cases, and_yes, some_not, every_all, every_at, ltb_not_leb}
use Rattle.laws.specs.Passing.{passing, passing_same, passing_wider, passing_all}
use Rattle.laws.specs.Ahead.{or_yes, never}
use Rattle.laws.specs.Overall.{joined_same, joined_rises, joined_most, product_most}
use Rattle.meeting.specs.Clauses.{View, bound_of, read_at, unread, limit_at}
use Rattle.halting.specs.Bar.{held, parts, halts_parted, parts_halts}
use Rattle.halting.specs.Clauses.{met_of, halts_of, Legible, mark_of, Marked, reach_of, Barred, passes_of, above_of, unmet_of, parts_of}

-- what stands for a local score that is not read
unread_most : (high : Bool) (n : ℕ) (scores : List ℕ) (p i : ℕ) → ((j : ℕ) → get_or scores j 0 ≤ 65535)
    → unread high n scores p i ≤ 65535
unfolding unread
unread_most true n scores p i small = small (i * n + p - 1)
unread_most false n scores p i small = omega arith

read_most : (high : Bool) (n : ℕ) (scores work : List ℕ) (d p i : ℕ) → ((j : ℕ) → get_or scores j 0 ≤ 65535)
    → read_at n scores work d p (unread high n scores p) i ≤ 65535
unfolding read_at
read_most high n scores work d p i small =
    by_cases (leb (get_or work (i * n + d) 0) p)
    (λ (y : leb (get_or work (i * n + d) 0) p ≡ true). rw y (small (i * n + get_or work (i * n + d) 0 - 1)))
    (λ (z : leb (get_or work (i * n + d) 0) p ≡ false). rw z (unread_most high n scores p i small))

read_rises : (n : ℕ) (scores work : List ℕ) (d p i : ℕ)
    → read_at n scores work d p (unread false n scores p) i ≤ read_at n scores work d p (unread true n scores p) i
unfolding read_at unread
read_rises n scores work d p i =
    by_cases (leb (get_or work (i * n + d) 0) p)
    (λ (y : leb (get_or work (i * n + d) 0) p ≡ true). rw y (omega arith))
    (λ (z : leb (get_or work (i * n + d) 0) p ≡ false). rw z (omega arith))

not_either : (a b : Bool) → (not a && b) ≡ not (a || not b)
not_either true b = refl
not_either false true = refl
not_either false false = refl

module _ {v : View} {p : ℕ} (w : Legible v p) where
  pub bound_most : (high : Bool) (d : ℕ) → bound_of v high p d ≤ 524280000
  unfolding bound_of
  bound_most high d =
      let x : ℕ → ℕ = λ i. read_at v.n v.scores v.work d p (unread high v.n v.scores p) i * get_or v.weights i 0 in
      let sum = joined_most v.rule x v.m
      (λ i _. product_most (read_at v.n v.scores v.work d p (unread high v.n v.scores p) i) (get_or v.weights i 0)
      (read_most high v.n v.scores v.work d p i w.scores_small) (w.weights_small i)) in
      omega (arith, sum, w.m_most)

  low_below_high : (d : ℕ) → bound_of v false p d ≤ bound_of v true p d
  unfolding bound_of
  low_below_high d =
      joined_rises v.rule
      (λ i. read_at v.n v.scores v.work d p (unread false v.n v.scores p) i * get_or v.weights i 0)
      (λ i. read_at v.n v.scores v.work d p (unread true v.n v.scores p) i * get_or v.weights i 0) v.m
      (λ i _. mul-le-mul_right (get_or v.weights i 0) (read_rises v.n v.scores v.work d p i))

  -- a mark is above a bar exactly where the item is met and its low reaches the bar
  pub mark_above : (bar d : ℕ) → ltb bar (mark_of v p d) ≡ (met_of v p d && leb bar (bound_of v false p d))
  unfolding mark_of
  mark_above bar d =
      by_cases (met_of v p d)
      (λ (y : met_of v p d ≡ true).
      by_cases (leb bar (bound_of v false p d))
      (λ (a : leb bar (bound_of v false p d) ≡ true). rw
      (y, a, lt-ltb bar (bound_of v false p d + 1) (omega (arith, leb-true bar (bound_of v false p d) a))))
      (λ (a : leb bar (bound_of v false p d) ≡ false). rw
      (y, a, le-ltb bar (bound_of v false p d + 1) (omega (arith, leb-false bar (bound_of v false p d) a)))))
      (λ (z : met_of v p d ≡ false). rw (z, le-ltb bar 0 (omega arith)))

  pub blocks_not : (bar d : ℕ) → (ltb bar (bound_of v true p d) && leb (mark_of v p d) bar) ≡ not (passes_of v p bar d)
  unfolding passes_of
  blocks_not bar d =
      rw (← (mark_above bar d), ltb_not_leb (bound_of v true p d) bar, ltb_not_leb (mark_of v p d) bar)
      (not_either (leb (bound_of v true p d) bar) (leb (mark_of v p d) bar))

  -- the high of an item that is not met
  pub unmet_high : (d : ℕ) → mark_of v p d ≡ 0 → bound_of v true p d ≡ unmet_of v p
  unfolding mark_of met_of bound_of unmet_of limit_at read_at unread
  unmet_high d none =
      by_cases (met_of v p d)
      (λ (y : met_of v p d ≡ true). absurd (omega (arith, sym (rw y at none))))
      (λ (z : met_of v p d ≡ false).
      joined_same v.rule
      (λ i. read_at v.n v.scores v.work d p (unread true v.n v.scores p) i * get_or v.weights i 0)
      (λ i. get_or v.scores (i * v.n + (get_or (replicate 8 p) i 0 - 1)) 0 * get_or v.weights i 0) v.m
      (λ i hi.
      let at : i * v.n + p - 1 ≡ i * v.n + (p - 1) = omega (arith, w.row_least) in
      rw (
        some_not (λ j. leb (get_or v.work (j * v.n + d) 0) p) v.m i z hi,
        get_or-replicate {A = ℕ} 8 i p 0 (omega (arith, w.m_most)),
        at,
      )))

  module _ (bar d : ℕ) (none : mark_of v p d ≡ 0) where
    -- whether it stands in the way goes by that high alone
    unmet_in_the_way : ltb bar (unmet_of v p) ≡ not (passes_of v p bar d)
    unmet_in_the_way =
        sym (rw (unmet_high d none, none, le-leb 0 bar (omega arith)) (and-true (ltb bar (unmet_of v p)))) ∙ blocks_not bar d

    pub unmet_blocks : bar < unmet_of v p → passes_of v p bar d ≡ false
    unmet_blocks above = not-true (passes_of v p bar d) (sym unmet_in_the_way ∙ lt-ltb bar (unmet_of v p) above)

    pub unmet_passes : unmet_of v p ≤ bar → passes_of v p bar d ≡ true
    unmet_passes under = not-false (passes_of v p bar d) (sym unmet_in_the_way ∙ le-ltb bar (unmet_of v p) under)

  module _ {marks : List ℕ} (noted : Marked v p marks) where
    pub reach_is : (bar : ℕ) → reach_of v.n marks bar ≡ passing (λ d. met_of v p d && leb bar (bound_of v false p d)) v.n
    unfolding reach_of
    reach_is bar =
        passing_same (λ d. ltb bar (get_or marks d 0)) (λ d. met_of v p d && leb bar (bound_of v false p d)) v.n
        (λ d hd. rw (noted.marks_are d hd) (mark_above bar d))

    pub halts_few : (k : ℕ) → 1 ≤ k → reach_of v.n marks 0 < k → halts_of v k p ≡ false
    unfolding halts_of
    halts_few k some few =
        never (halts_of v k p)
        (λ y.
        let low = bound_of v false p in
        let last = low (last_of 0 (held v.n k low (bound_of v true p) (met_of v p))) in
        let b = halts_parted v.n k low (bound_of v true p) (met_of v p) some y in
        omega (
          arith,
          b.reached,
          reach_is 0,
          passing_wider (λ d. met_of v p d && leb last (low d)) (λ d. met_of v p d && leb 0 (low d)) v.n
              (λ d _ e. rw ((and_yes (met_of v p d) (leb last (low d)) e).0, le-leb 0 (low d) (omega arith))),
        ))

    module _ (k bar : ℕ) (some : 1 ≤ k) (b : Barred v.n k marks bar) where
      halts_barred : parts_of v k p bar ≡ halts_of v k p
      unfolding halts_of parts_of
      halts_barred =
          parts_halts v.n k (bound_of v false p) (bound_of v true p) (met_of v p) some bar (omega (arith, b.reached, reach_is bar))
          (λ d _. low_below_high d) (omega (arith, b.not_next, reach_is (suc bar)))

      pub halts_not : (d : ℕ) → d < v.n → passes_of v p bar d ≡ false → halts_of v k p ≡ false
      unfolding parts_of parts passes_of
      halts_not d hd z =
          sym halts_barred
          ∙ never (parts_of v k p bar)
          (λ y.
          true≢false
          (sym (every_at (λ d. leb (bound_of v true p d) bar || (met_of v p d && leb bar (bound_of v false p d))) v.n d (and_yes _ _ y).0 hd) ∙ z))

      pub halts_unmet : bar < unmet_of v p → reach_of v.n marks 0 < v.n → halts_of v k p ≡ false
      unfolding reach_of
      halts_unmet above few =
          never (halts_of v k p)
          (λ y.
          let all_met = passing_all (λ d. ltb 0 (get_or marks d 0)) v.n
          (λ d hd.
          by_cases (ltb 0 (get_or marks d 0))
          (λ t. t)
          (λ z.
          let none : mark_of v p d ≡ 0 = omega (arith, noted.marks_are d hd, ltb-false 0 (get_or marks d 0) z) in
          absurd (true≢false (sym y ∙ halts_not d hd (unmet_blocks bar d none above))))) in
          omega arith)

      pub halts_yes : ((d : ℕ) → d < v.n → passes_of v p bar d ≡ true) → halts_of v k p ≡ leb (above_of v p bar) k
      unfolding parts_of parts passes_of above_of
      halts_yes all = sym halts_barred ∙ rw (every_all (λ d. leb (bound_of v true p d) bar || (met_of v p d && leb bar (bound_of v false p d))) v.n
          all)

      -- no more lows reach the bar than k, so no more highs are above it
      pub halts_reach : ((d : ℕ) → d < v.n → passes_of v p bar d ≡ true) → reach_of v.n marks bar ≤ k → halts_of v k p ≡ true
      unfolding passes_of above_of reach_of
      halts_reach all few =
          halts_yes all
          ∙ le-leb (above_of v p bar) k
          (omega (
            arith,
            passing_wider (λ d. ltb bar (bound_of v true p d)) (λ d. ltb bar (get_or marks d 0)) v.n
                (λ d hd above.
                or_yes (leb (bound_of v true p d) bar) (met_of v p d && leb bar (bound_of v false p d)) (all d hd)
                (λ below. absurd (omega (arith, leb-true (bound_of v true p d) bar below, ltb-true bar (bound_of v true p d) above)))
                (λ inside. rw (noted.marks_are d hd) (mark_above bar d ∙ inside))),
          ))
