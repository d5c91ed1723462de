-- From one row or round to the next, whichever of the three searches it is.
--     row_reached, row_counted       how far the lists are visited, and the accesses counted, after one row more
--     counts_are                     the three counts, from the number of lookups
--     reached_at                     the threshold's positions lie within the lists, and the lists are visited up to them
--     limit_is, stops_told           the threshold and the search's own test, as the slices tell them
--     row_is                         the first row at which the search ends
--     state_start                    before the first row
-- Assumes nothing.
use mathlib.Core.Path.{◌≡◌, refl, sym, ap, ◌∙◌}
use mathlib.Core.Bool.{true, false, cond, ◌&&◌, ◌||◌, true≢false, false≢true}
use mathlib.Core.List.{List, [], ◌++◌, map}
use Prim.Native.Nat.{ℕ, suc, ◌+◌, ◌-◌, ◌*◌, ◌≤◌, ◌<◌}
use native.Mathlib.Nat.{suc-mul}
use native.Mathlib.Numerals.{add-one}
use native.Mathlib.Omega.{arith}
use lib.Dec.{eqb, leb, ltb}
use lib.ListN.{length, get_or, take, drop, replicate, length-take, length-map, length-replicate}
use lib.Seq.{take-nil, get_or-take}
use borrow.Author.Tests.{eqb-true, eqb-false, eq-eqb, ne_eqb, leb-true, ltb-true, ltb-false}
use Rattle.model.specs.Words.{first, last_of, over}
use Rattle.model.specs.Given.{Poses, Query, score, overall, total}
use Rattle.model.specs.Accesses.{sorted, direct, random, same_kind, row_ta, rows_ta, rounds, times, met, best, made, tally}
use Rattle.model.specs.Searches.{Search, ahead, order, kept, stops, rows, threshold, by_score}
use Rattle.laws.specs.Tests.{by_cases, first_is, first_most, first_least, first_passes}
use Rattle.laws.specs.Lists.{table_same, table_zeros, over_at, map_at}
use Rattle.laws.specs.Accepted.{Valid}
use Rattle.laws.specs.Lookups.{times_none}
use Rattle.laws.specs.Passing.{passing}
use Rattle.laws.specs.Visits.{best_most, best_reaches, best_wider, visited_more}
use Rattle.laws.specs.Looked.{Looked, looked_own, looked_random, looked_other}
use Rattle.laws.specs.Rows.{rows_looked, rows_covers}
use Rattle.laws.specs.Rounds.{none_met, rounds_turns, rounds_covers}
use Rattle.laws.specs.Ranking.{ranked_none}
use Rattle.laws.specs.Kept.{last_at}
use Rattle.laws.specs.Overall.{joined_same}
use Rattle.poses.specs.Sets.{set_of}
use Rattle.poses.specs.Rules.{rule_number}
use Rattle.meeting.specs.Clauses.{query_of, limit_at}
use Rattle.meeting.specs.Keeping.{listing_none}
use Rattle.meeting.specs.declared.Reading.{Reading}
use Rattle.noting.specs.declared.shortlist.Shortlist.{Shortlist}
use Rattle.stepping.specs.State.{ranking, State, VisitedUpTo}
use Rattle.scored.specs.Run.{steps_by, reach_by, kind_by, search_by}

-- ---- the numbers
steps_rounds : (which : ℕ) (s : Poses) (p : ℕ) → which ≡ 2 → steps_by which s p ≡ rounds s p
unfolding steps_by
steps_rounds which s p e = rw (eq-eqb which 2 e)

steps_rows : (which : ℕ) (s : Poses) (p : ℕ) → (which ≡ 2 → ⊥) → steps_by which s p ≡ rows_ta s p
unfolding steps_by
steps_rows which s p h = rw (ne_eqb which 2 h)

kind_direct : (which : ℕ) → which ≡ 2 → kind_by which ≡ direct
unfolding kind_by
kind_direct which e = rw (eq-eqb which 2 e)

kind_sorted : (which : ℕ) → (which ≡ 2 → ⊥) → kind_by which ≡ sorted
unfolding kind_by
kind_sorted which h = rw (ne_eqb which 2 h)

-- ---- a row more
pub row_reached : (s : Poses) (p : ℕ) (reach : List ℕ) → VisitedUpTo s (rows_ta s p) reach → VisitedUpTo s (rows_ta s (p + 1)) reach
unfolding rows_ta
row_reached s p reach reached i hi =
    rw (add-one p)
    (omega (
      arith,
      reached i hi,
      best_wider s (rows_ta s p) (rows_ta s p ++ row_ta s p s.m) i
          (λ q hq y. visited_more (rows_ta s p) (row_ta s p s.m) i q y),
    ))

module _ (s : Poses) (v : Valid s) where
  rows_sorted : (p : ℕ) → p ≤ s.n → made sorted (rows_ta s p) ≡ p * s.m
  rows_sorted p h = looked_own s v refl (rows_looked s p h)

  pub row_counted : (p : ℕ) → p < s.n → made sorted (rows_ta s (p + 1)) ≡ made sorted (rows_ta s p) + s.m
  row_counted p h =
      rw (rows_sorted p (omega arith), rows_sorted (p + 1) (omega arith), add-one p) (suc-mul p s.m)

  -- p rows or rounds are whole lookups by accesses of one kind
  steps_looked : (which p : ℕ) → p ≤ s.n → (c : ℕ) × Looked s (kind_by which) (steps_by which s p) c
  steps_looked which p h =
      by_cases (eqb which 2)
      (λ (y : eqb which 2 ≡ true).
      let e = eqb-true which 2 y in
      (passing (met s (rounds s p)) s.n, rw (kind_direct which e, steps_rounds which s p e) (rounds_turns s v p).looked))
      (λ (z : eqb which 2 ≡ false).
      let h' = eqb-false which 2 z in
      (p * s.m, rw (kind_sorted which h', steps_rows which s p h') (rows_looked s p h)))

  kind_plain : (which : ℕ) → same_kind (kind_by which) random ≡ false
  kind_plain which =
      by_cases (eqb which 2)
      (λ (y : eqb which 2 ≡ true). rw (kind_direct which (eqb-true which 2 y)))
      (λ (z : eqb which 2 ≡ false). rw (kind_sorted which (eqb-false which 2 z)))

  -- the three counts, from the number of lookups
  pub counts_are : (which p found : ℕ) → p ≤ s.n → found ≡ made (kind_by which) (steps_by which s p)
      → (cond (eqb which 2) 0 found ≡ made sorted (steps_by which s p)) × (cond (eqb which 2) found 0 ≡ made direct (steps_by which s p))
      × (found * (s.m - 1) ≡ made random (steps_by which s p))
  counts_are which p found h e =
      let r = steps_looked which p h in
      let own = looked_own s v (kind_plain which) r.1 in
      let others : found * (s.m - 1) ≡ made random (steps_by which s p) =
      ap (λ (c : ℕ). c * (s.m - 1)) (e ∙ own) ∙ sym (looked_random s v (kind_plain which) r.1) in
      by_cases (eqb which 2)
      (λ (y : eqb which 2 ≡ true).
      let k = kind_direct which (eqb-true which 2 y) in
      let l : Looked s direct (steps_by which s p) r.0 = rw k at r.1 in
      let e' : found ≡ made direct (steps_by which s p) = rw k at e in
      (rw y (sym (looked_other s v refl sorted refl refl l)), rw y e', others))
      (λ (z : eqb which 2 ≡ false).
      let k = kind_sorted which (eqb-false which 2 z) in
      let l : Looked s sorted (steps_by which s p) r.0 = rw k at r.1 in
      let e' : found ≡ made sorted (steps_by which s p) = rw k at e in
      (rw z e', rw z (sym (looked_other s v refl direct refl refl l)), others))

  -- after p rows or rounds every list is visited up to position p
  steps_reach : (which p i : ℕ) → p ≤ s.n → i < s.m → p ≤ best s (steps_by which s p) i
  steps_reach which p i h hi =
      best_reaches s (steps_by which s p) i p h
      (λ q l.
      by_cases (eqb which 2)
      (λ (y : eqb which 2 ≡ true). rw (steps_rounds which s p (eqb-true which 2 y)) (rounds_covers s v p h i q hi l))
      (λ (z : eqb which 2 ≡ false). rw (steps_rows which s p (eqb-false which 2 z)) (rows_covers s v p h i q hi l)))

  -- the threshold's positions: visited up to there, and positions of the lists
  pub reached_at : (which p : ℕ) (reach : List ℕ) → 1 ≤ p → p ≤ s.n
      → ((i : ℕ) → i < s.m → get_or reach i 0 ≡ reach_by which s p i) → (i : ℕ) → i < s.m
      → (get_or reach i 0 ≤ best s (steps_by which s p) i) × (1 ≤ get_or reach i 0) × (get_or reach i 0 ≤ s.n)
  unfolding reach_by
  reached_at which p reach some h is i hi =
      let deep = steps_reach which p i h hi in
      let most = best_most s (steps_by which s p) i in
      by_cases (eqb which 0)
      (λ (y : eqb which 0 ≡ true). let e : get_or reach i 0 ≡ p = is i hi ∙ rw y in rw e (omega arith))
      (λ (z : eqb which 0 ≡ false). let e : get_or reach i 0 ≡ best s (steps_by which s p) i = is i hi ∙ rw z in rw e (omega arith))

-- ---- the test, as the slices tell it
-- the threshold at positions that stand in an array
pub limit_is : (r : Reading) (which p : ℕ) (reach : List ℕ) → ((i : ℕ) → i < r.set.lists → get_or reach i 0 ≡ reach_by which (set_of r.set) p i)
    → limit_at (rule_number r.rule) r.weights.now r.set.lists r.set.poses reach r.set.scores.now
    ≡ threshold (set_of r.set) (query_of r) (reach_by which (set_of r.set) p)
unfolding limit_at threshold overall score
limit_is r which p reach is =
    let s = set_of r.set in
    let w = query_of r in
    joined_same w.rule (λ i. get_or s.scores (i * s.n + (get_or reach i 0 - 1)) 0 * w.weight i)
    (λ i. get_or s.scores (i * s.n + (reach_by which s p i - 1)) 0 * w.weight i) s.m
    (λ i hi. rw (is i hi))

module _ {s : Poses} {q : Query} (which p : ℕ) {picks₀ lows₀ tally₀ marks : List ℕ} {l : Shortlist}
    (at : State s q (steps_by which s p) picks₀ lows₀ tally₀ l marks) where
  pub kept_is : kept s l.count (search_by which s q) p ≡ take l.count (ranking s q (steps_by which s p))
  unfolding kept order search_by by_score ranking
  kept_is = refl

  -- the last of all places, where none is free, has the score that stands last
  last_low : 1 ≤ l.count → l.count ≤ l.filled
      → get_or l.lows.now (l.count - 1) 0 ≡ total s q (last_of 0 (take l.count (ranking s q (steps_by which s p))))
  last_low some full =
      let k = l.count in
      let ranked = ranking s q (steps_by which s p) in
      let t = take k ranked in
      let size = length-take k ranked in
      let long : k ≤ length ranked = omega (arith, at.shortlist.filled_is) in
      let inside : k - 1 < length t = omega (arith, at.shortlist.filled_is) in
      let k_is : suc (k - 1) ≡ k = omega arith in
      let last : last_of 0 t ≡ get_or ranked (k - 1) 0 = rw k_is at (last_at 0 ranked (k - 1) (omega arith)) in
      rw (at.shortlist.shown.lows_are, last)
      (over_at (map (total s q) t) lows₀ (k - 1) 0 (rw length-map inside) ∙ map_at (total s q) t (k - 1) inside
      ∙ ap (total s q) (get_or-take k ranked (k - 1) 0 (omega arith)))

  pub stops_told : (limit : ℕ) → limit ≡ threshold s q (reach_by which s p)
      → (leb l.count l.filled && leb limit (get_or l.lows.now (l.count - 1) 0)) ≡ stops s l.count (search_by which s q) p
  unfolding stops search_by by_score
  stops_told limit e =
      let k = l.count in
      let t = take k (ranking s q (steps_by which s p)) in
      rw (kept_is, at.shortlist.filled_is, e)
      (by_cases (leb k (length t))
      (λ (y : leb k (length t) ≡ true).
      let full : k ≤ l.filled = omega (arith, leb-true k (length t) y, at.shortlist.filled_is) in
      rw (y, last_low l.keeps.room.k_least full))
      (λ (z : leb k (length t) ≡ false). rw z))

-- the first row at which the search ends: by its own test, or because it is the last
pub row_is : (s : Poses) (k : ℕ) (r : Search) (p : ℕ) → 1 ≤ p → p ≤ s.n
    → ((x : ℕ) → 1 ≤ x → x < p → stops s k r x ≡ false) → (eqb p s.n || stops s k r p) ≡ true → p ≡ rows s k r
unfolding rows
row_is s k r p some most before ends =
    by_cases (stops s k r p)
    (λ (y : stops s k r p ≡ true).
    by_cases (eqb p s.n)
    (λ (u : eqb p s.n ≡ true). last_row (eqb-true p s.n u))
    (λ (w : eqb p s.n ≡ false).
    sym (first_is (stops s k r) (s.n - 1) 1 p some (omega (arith, eqb-false p s.n w)) y before)))
    (λ (z : stops s k r p ≡ false).
    last_row (eqb-true p s.n (by_cases (eqb p s.n) (λ u. u) (λ (w : eqb p s.n ≡ false). absurd (false≢true (rw (w, z) at ends))))))
  where
    last_row : p ≡ s.n → p ≡ first (stops s k r) (s.n - 1) 1
    last_row e =
        let most_row = first_most (stops s k r) (s.n - 1) 1 in
        let least_row = first_least (stops s k r) (s.n - 1) 1 in
        by_cases (ltb (first (stops s k r) (s.n - 1) 1) p)
        (λ (y : ltb (first (stops s k r) (s.n - 1) 1) p ≡ true).
        let early = ltb-true (first (stops s k r) (s.n - 1) 1) p y in
        absurd (true≢false (sym (first_passes (stops s k r) (s.n - 1) 1 (omega arith)) ∙ before (first (stops s k r) (s.n - 1) 1) least_row early)))
        (λ (z : ltb (first (stops s k r) (s.n - 1) 1) p ≡ false).
        omega (arith, ltb-false (first (stops s k r) (s.n - 1) 1) p z))

-- ---- before the first row
none_kept : (s : Poses) (q : Query) (k : ℕ) → take k (ranking s q []) ≡ []
unfolding ranking
none_kept s q k = ap (take k) (ranked_none (ahead (total s q) (total s q)) (met s []) s.n (none_met s)) ∙ take-nil k

none_tallied : (s : Poses) → tally s [] ≡ replicate (s.m * s.n) 0
unfolding tally
none_tallied s = table_same (times []) (λ _ _. 0) s.n s.m (λ i p hi hp. times_none i p) ∙ table_zeros s.n s.m

pub state_start : (s : Poses) (q : Query) (l : Shortlist) (marks marks₀ : List ℕ) → l.filled ≡ 0
    → marks ≡ replicate (s.m * s.n) 0 ++ drop (s.m * s.n) marks₀ → length marks ≡ length marks₀
    → State s q [] l.picks.now l.lows.now marks₀ l marks
unfolding over
state_start s q l marks marks₀ none e long =
    record {
      shortlist = rw (none, none_kept s q l.count) (listing_none (total s q) (total s q) l.picks.now l.lows.now l.lows.now);
      tally_is = e ∙ rw (none_tallied s, length-replicate {A = ℕ} (s.m * s.n) 0);
      tally_as_long = long;
    }

pub steps_none : (which : ℕ) (s : Poses) → steps_by which s 0 ≡ []
unfolding steps_by rows_ta rounds
steps_none which s = by_cases (eqb which 2) (λ (y : eqb which 2 ≡ true). rw y) (λ (z : eqb which 2 ≡ false). rw z)
