-- NRA's test by a bar: no order is made for it.
--     held, halts                the first k met items, by given lows and highs; NRA's test of them
--     Parted                     a bar: k lows reach it, at most k highs are above it, and those items' lows reach it
--     halts_parted, parted_halts     the test holds exactly where there is such a bar
--     bar_full                   where k met items' lows reach some bar, k items are held
--     parts, parts_halts         the test by the k-th low alone, with no order made
-- Assumes nothing.
use Rattle.std.specs.Prelude.{◌≡◌, refl, false, ◌&&◌, ◌||◌, List, [], ◌∷◌, eqb, take}
use Rattle.std.proofs.Common.{sym, ◌∙◌, true≢false}
use Rattle.std.proofs.Math.Path.{ap}
use Rattle.std.proofs.Math.Bool.{Bool, true, or_comm, or-true}
use Rattle.std.proofs.Math.Logic.{⊎_elim}
use Prim.Native.Nat.{ℕ, suc, ◌-◌, ◌≤◌, ◌<◌}
use native.Mathlib.Omega.{arith}
use Rattle.std.proofs.Math.Dec.{leb, ltb}
use Rattle.std.proofs.Math.ListN.{length, get_or, length-take}
use borrow.Author.Tests.{eqb-true, eq-eqb, leb-true, leb-false, le-leb, ltb-true, lt-ltb}
use Rattle.model.specs.Words.{every_below, last_of}
use Rattle.model.specs.Searches.{ahead, ranked, among}
use Rattle.laws.specs.Tests.{by_cases, and_yes, every_all, every_at}
use Rattle.laws.specs.Passing.{passing, passing_wider, passing_none, passing_more}
use Rattle.laws.specs.Ahead.{or_yes, never, Ordering, Ahead, by_low, by_high, by_item, ahead_tells, ahead_ordering, ahead_low}
use Rattle.laws.specs.Ranking.{Sorted, sorted_head, sorted_tail, sorted_take, ranked_count, ranked_length, ranked_sorted}
use Rattle.laws.specs.Kept.{last_at, kept_item, kept_others, kept_each, kth_passes}

-- the first k met items
unfoldable pub held : ℕ → ℕ → (ℕ → ℕ) → (ℕ → ℕ) → (ℕ → Bool) → List ℕ
held n k low high met = take k (ranked (ahead low high) met n)

-- "Stop when k items are met and every item outside those k, met or not, has a high at or below the lowest low kept"
unfoldable pub halts : ℕ → ℕ → (ℕ → ℕ) → (ℕ → ℕ) → (ℕ → Bool) → Bool
halts n k low high met =
    leb k (length (held n k low high met))
    && every_below (λ d. among d (held n k low high met) || leb (high d) (low (last_of 0 (held n k low high met)))) n

-- a list in an order has as many items as entries
list_passing : {before : ℕ → ℕ → Bool} → Ordering before → (n : ℕ) (l : List ℕ) → Sorted before l
    → ((d : ℕ) → among d l ≡ true → d < n) → passing (λ x. among x l) n ≡ length l
unfolding among
list_passing o n [] h small = passing_none (λ x. among x []) n (λ d _. refl)
list_passing {before} o n (e ∷ l) h small =
    let new : among e l ≡ false = never (among e l) (λ y. true≢false (sym (sorted_head before e l h e y) ∙ o.itself e)) in
    passing_more (λ x. among x l) (λ x. among x (e ∷ l)) n e (small e (rw (eq-eqb e e refl))) new (λ d _. or_comm (eqb d e) (among d l))
    ∙ ap suc (list_passing o n l (sorted_tail before e l h) (λ d y. small d (rw y (or-true (eqb d e)))))

-- a bar that parts the first k from all others
pub record Parted (n k : ℕ) (low high : ℕ → ℕ) (met : ℕ → Bool) (bar : ℕ) : Type 0 where
  pub reached : k ≤ passing (λ d. met d && leb bar (low d)) n
  pub few_above : passing (λ d. ltb bar (high d)) n ≤ k
  pub above_reach : (d : ℕ) → d < n → bar < high d → (met d ≡ true) × (bar ≤ low d)

module _ (n k : ℕ) (low high : ℕ → ℕ) (met : ℕ → Bool) (some : 1 ≤ k) where
  held_size : length (held n k low high met) ≡ k → passing (λ x. among x (held n k low high met)) n ≡ k
  unfolding held
  held_size full =
      list_passing (ahead_ordering low high) n (held n k low high met)
      (sorted_take (ahead low high) k (ranked (ahead low high) met n) (ranked_sorted (ahead low high) (ahead_ordering low high) met n))
      (λ d y. (kept_item (ahead low high) met n k d y).0)
      ∙ full

  held_full : k ≤ length (held n k low high met) → length (held n k low high met) ≡ k
  unfolding held
  held_full h = omega (arith, length-take k (ranked (ahead low high) met n))

  held_met : (d : ℕ) → among d (held n k low high met) ≡ true → met d ≡ true
  unfolding held
  held_met d y = (kept_item (ahead low high) met n k d y).1

  -- each of the first k has a low at or above the last one's
  held_low : length (held n k low high met) ≡ k → (d : ℕ) → among d (held n k low high met) ≡ true
      → low (last_of 0 (held n k low high met)) ≤ low d
  unfolding held
  held_low full d y =
      ⊎_elim
      (λ (e : d ≡ last_of 0 (held n k low high met)). omega (arith, ap low e))
      (λ a. ahead_low low high d (last_of 0 (held n k low high met)) a)
      (kept_each (ahead low high) (ahead_ordering low high) met n k some full d y)

  -- the test holds: the last low kept is such a bar
  pub halts_parted : halts n k low high met ≡ true → Parted n k low high met (low (last_of 0 (held n k low high met)))
  unfolding halts
  halts_parted y =
      let l = held n k low high met in
      let bar = low (last_of 0 l) in
      let both = and_yes (leb k (length l)) (every_below (λ d. among d l || leb (high d) bar) n) y in
      let full : length l ≡ k = held_full (leb-true k (length l) both.0) in
      let kept_above : (d : ℕ) → d < n → bar < high d → among d l ≡ true =
      λ d hd above.
      or_yes (among d l) (leb (high d) bar) (every_at (λ d. among d l || leb (high d) bar) n d both.1 hd)
      (λ a. a)
      (λ b. absurd (omega (arith, leb-true (high d) bar b))) in
      record {
        reached = omega (
          arith,
          held_size full,
          passing_wider (λ x. among x l) (λ d. met d && leb bar (low d)) n
              (λ d _ a. rw (held_met d a, le-leb bar (low d) (held_low full d a))),
        );
        few_above = omega (
          arith,
          held_size full,
          passing_wider (λ d. ltb bar (high d)) (λ x. among x l) n
              (λ d hd b. kept_above d hd (ltb-true bar (high d) b)),
        );
        above_reach = λ d hd above. (held_met d (kept_above d hd above), held_low full d (kept_above d hd above));
      }

  -- k lows reach a bar: k items are kept, and the last low of them reaches it
  module _ (bar : ℕ) (reached : k ≤ passing (λ d. met d && leb bar (low d)) n) where
    pub bar_full : length (held n k low high met) ≡ k
    unfolding held
    bar_full =
        let met_many = passing_wider (λ d. met d && leb bar (low d)) met n (λ d _ y. (and_yes (met d) (leb bar (low d)) y).0) in
        omega (arith, ranked_length (ahead low high) met n, length-take k (ranked (ahead low high) met n))

    bar_last : bar ≤ low (last_of 0 (held n k low high met))
    unfolding held
    bar_last =
        let l = ranked (ahead low high) met n in
        let t : ℕ → Bool = λ d. leb bar (low d) in
        let many : k - 1 < length l = omega (arith, bar_full, length-take k l) in
        let passes : t (get_or l (k - 1) 0) ≡ true =
        kth_passes (ahead low high) t
        (λ d e a y. le-leb bar (low d) (omega (arith, ahead_low low high d e a, leb-true bar (low e) y)))
        l (k - 1) (ranked_sorted (ahead low high) (ahead_ordering low high) met n)
        (omega (arith, ranked_count (ahead low high) met t n)) in
        let size : suc (k - 1) ≡ k = omega arith in
        let last : last_of 0 (take k l) ≡ get_or l (k - 1) 0 = rw size at (last_at 0 l (k - 1) many) in
        rw last (leb-true bar (low (get_or l (k - 1) 0)) passes)

  module _ (low_most : (d : ℕ) → d < n → low d ≤ high d) (bar : ℕ) (b : Parted n k low high met bar) where
    abbrev full : length (held n k low high met) ≡ k
    full = bar_full bar b.reached

    -- a met item outside has all of the first k ahead of it
    outside_behind : (d e : ℕ) → d < n → met d ≡ true → among d (held n k low high met) ≡ false
        → among e (held n k low high met) ≡ true → ahead low high e d ≡ true
    unfolding held
    outside_behind d e hd y out kept =
        let o = ahead_ordering low high in
        let last = last_of 0 (held n k low high met) in
        let behind : ahead low high last d ≡ true = kept_others (ahead low high) o met n k some full d hd y out in
        ⊎_elim
        (λ (same : e ≡ last). rw same behind)
        (λ a. o.through e last d a behind)
        (kept_each (ahead low high) o met n k some full e kept)

    -- so their highs are above the bar too, if that item's is
    above_too : (d e : ℕ) → bar ≤ low d → bar < high d → e < n → Ahead low high e d → bar < high e
    above_too d e reach above he (by_low l) = omega (arith, low_most e he)
    above_too d e reach above he (by_high x l) = omega arith
    above_too d e reach above he (by_item x y l) = omega arith

    outside_low : (d : ℕ) → d < n → among d (held n k low high met) ≡ false
        → high d ≤ low (last_of 0 (held n k low high met))
    outside_low d hd out =
        let l = held n k low high met in
        by_cases (leb (high d) (low (last_of 0 l)))
        (λ y. leb-true (high d) (low (last_of 0 l)) y)
        (λ z.
        let over = leb-false (high d) (low (last_of 0 l)) z in
        let above : bar < high d = omega (arith, bar_last bar b.reached) in
        let inside = b.above_reach d hd above in
        let t : ℕ → Bool = λ x. among x l in
        let u : ℕ → Bool = λ x. among x l || eqb x d in
        let more : passing u n ≡ suc (passing t n) = passing_more t u n d hd out (λ x _. refl) in
        let wider : passing u n ≤ passing (λ x. ltb bar (high x)) n =
        passing_wider u (λ x. ltb bar (high x)) n
        (λ x hx y.
        or_yes (among x l) (eqb x d) y
        (λ a. lt-ltb bar (high x)
        (above_too d x inside.1 above hx (ahead_tells low high x d (outside_behind d x hd inside.0 out a))))
        (λ e. let same : x ≡ d = eqb-true x d e in rw same (lt-ltb bar (high d) above))) in
        absurd (omega (arith, held_size full, b.few_above)))

    pub parted_halts : halts n k low high met ≡ true
    unfolding halts
    parted_halts =
        let l = held n k low high met in
        let last = low (last_of 0 l) in
        rw (le-leb k (length l) (omega (arith, full)))
        (every_all (λ d. among d l || leb (high d) last) n
        (λ d hd.
        by_cases (among d l)
        (λ (y : among d l ≡ true). rw y)
        (λ (z : among d l ≡ false). rw z (le-leb (high d) last (outside_low d hd z)))))

-- ---- the test by the k-th low alone
-- each item whose high is above the bar is met and its low reaches the bar, and there are at most k of them
unfoldable pub parts : ℕ → ℕ → (ℕ → ℕ) → (ℕ → ℕ) → (ℕ → Bool) → ℕ → Bool
parts n k low high met bar =
    every_below (λ d. leb (high d) bar || (met d && leb bar (low d))) n && leb (passing (λ d. ltb bar (high d)) n) k

module _ (n k : ℕ) (low high : ℕ → ℕ) (met : ℕ → Bool) (some : 1 ≤ k) (bar : ℕ) (reached : k ≤ passing (λ d. met d && leb bar (low d)) n) where
  parts_parted : parts n k low high met bar ≡ true → Parted n k low high met bar
  unfolding parts
  parts_parted y =
      let t : ℕ → Bool = λ d. leb (high d) bar || (met d && leb bar (low d)) in
      let both = and_yes (every_below t n) (leb (passing (λ d. ltb bar (high d)) n) k) y in
      record {
        reached = reached;
        few_above = leb-true (passing (λ d. ltb bar (high d)) n) k both.1;
        above_reach = λ d hd above.
            or_yes (leb (high d) bar) (met d && leb bar (low d)) (every_at t n d both.0 hd)
            (λ a. absurd (omega (arith, leb-true (high d) bar a)))
            (λ a. let inside = and_yes (met d) (leb bar (low d)) a in (inside.0, leb-true bar (low d) inside.1));
      }

  parted_parts : Parted n k low high met bar → parts n k low high met bar ≡ true
  unfolding parts
  parted_parts b =
      rw (every_all (λ d. leb (high d) bar || (met d && leb bar (low d))) n
      (λ d hd.
      by_cases (leb (high d) bar)
      (λ (y : leb (high d) bar ≡ true). rw y)
      (λ (z : leb (high d) bar ≡ false).
      let inside = b.above_reach d hd (leb-false (high d) bar z) in
      rw (z, inside.0, le-leb bar (low d) inside.1))))
      (le-leb (passing (λ d. ltb bar (high d)) n) k b.few_above)

  -- the bar is the k-th low: no higher one is reached by k lows
  pub parts_halts : ((d : ℕ) → d < n → low d ≤ high d) → passing (λ d. met d && leb (suc bar) (low d)) n < k
      → parts n k low high met bar ≡ halts n k low high met
  parts_halts low_most not_next =
      by_cases (parts n k low high met bar)
      (λ (y : parts n k low high met bar ≡ true). y ∙ sym (parted_halts n k low high met some low_most bar (parts_parted y)))
      (λ (z : parts n k low high met bar ≡ false).
      z
      ∙ sym
      (never (halts n k low high met)
      (λ y.
      let last = low (last_of 0 (held n k low high met)) in
      let b = halts_parted n k low high met some y in
      let least = bar_last n k low high met some bar reached in
      let most : last ≤ bar =
      by_cases (leb last bar)
      (λ a. leb-true last bar a)
      (λ a.
      let above = leb-false last bar a in
      absurd (omega (
        arith,
        b.reached,
        passing_wider (λ d. met d && leb last (low d)) (λ d. met d && leb (suc bar) (low d)) n
            (λ d _ e.
            let both = and_yes (met d) (leb last (low d)) e in
            rw (both.0, le-leb (suc bar) (low d) (omega (arith, leb-true last (low d) both.1)))),
      ))) in
      let same : last ≡ bar = omega arith in
      true≢false (sym (parted_parts (rw same at b)) ∙ z))))
