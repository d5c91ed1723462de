-- TA, BPA and BPA2 in one: searches by score, `by_score s q f h`.
--     stops_counts, counts_stop      such a search stops exactly when at least k met items score h or more
--     Sound                          no unmet item scores above h; after n rows every item is met and scores h or more
--     sound_stops, sound_best        then it stops at row n, and no item left out scores above one returned
--     stops_sooner                   with no fewer items met and no greater h it stops no later
--     threshold_falls                a threshold at deeper positions is no greater
--     threshold_bounds               no item that stands below all positions of a threshold scores more than it
--     threshold_least                every item scores as much as the threshold at the last positions, or more
--     covers_sound, best_sound       where p rows visit the first p positions, TA's threshold is sound, and so is BPA's
-- Assumes nothing.
use Rattle.std.specs.Prelude.{◌≡◌, refl, false, ◌&&◌, List, get_or}
use Rattle.std.proofs.Math.Bool.{Bool, true}
use Prim.Native.Nat.{ℕ, ◌-◌, ◌≤◌, ◌<◌}
use Rattle.std.proofs.Common.{arith}
use Rattle.std.proofs.Math.Dec.{leb}
use Rattle.std.proofs.Math.ListN.{length, take, length-take}
use borrow.Author.Tests.{leb-true, le-leb}
use Rattle.model.specs.Words.{count, last_of}
use Rattle.model.specs.Given.{Poses, Query, score, place, total}
use Rattle.model.specs.Accesses.{Access, met, best}
use Rattle.model.specs.Searches.{ahead, ranked, among, order, kept, stops, by_score, threshold}
use Rattle.laws.specs.Tests.{by_cases, and_yes}
use Rattle.laws.specs.Lists.{count_most}
use Rattle.laws.specs.Accepted.{Valid}
use Rattle.laws.specs.Passing.{passing, passing_all, passing_wider}
use Rattle.laws.specs.Ahead.{ahead_ordering, ahead_low}
use Rattle.laws.specs.Ranking.{Sorted, ranked_sorted, ranked_count}
use Rattle.laws.specs.Kept.{kept_last, kept_low, left_low, kth_passes, kth_counts}
use Rattle.laws.specs.Overall.{overall_rises}
use Rattle.laws.specs.Visits.{Covers, visited_met, unmet_below, best_most, best_visited, best_reaches}

module _ (s : Poses) (q : Query) (f : ℕ → List Access) (h : ℕ → ℕ) where
  -- the items met in p rows that score h or more
  abbrev reaching : ℕ → ℕ → Bool
  reaching p d = met s (f p) d && leb (h p) (total s q d)

  reaching_on : (p d e : ℕ) → ahead (total s q) (total s q) d e ≡ true → leb (h p) (total s q e) ≡ true
      → leb (h p) (total s q d) ≡ true
  reaching_on p d e a y =
      let higher = ahead_low (total s q) (total s q) d e a in
      le-leb (h p) (total s q d) (omega (arith, leb-true (h p) (total s q e) y))

  -- the met items, the highest score first
  abbrev standing : ℕ → List ℕ
  standing p = ranked (ahead (total s q) (total s q)) (met s (f p)) s.n

  standing_sorted : (p : ℕ) → Sorted (ahead (total s q) (total s q)) (standing p)
  standing_sorted p =
      ranked_sorted (ahead (total s q) (total s q)) (ahead_ordering (total s q) (total s q)) (met s (f p)) s.n

  standing_counts : (p : ℕ) → count (λ d. leb (h p) (total s q d)) (standing p) ≡ passing (reaching p) s.n
  standing_counts p = ranked_count (ahead (total s q) (total s q)) (met s (f p)) (λ d. leb (h p) (total s q d)) s.n

  -- the two parts of its test
  stops_parts : (k p : ℕ) → stops s k (by_score s q f h) p ≡ true
      → (k ≤ length (standing p)) × (h p ≤ total s q (last_of 0 (take k (standing p))))
  unfolding stops kept order by_score
  stops_parts k p y =
      let l = take k (standing p) in
      let parts = and_yes (leb k (length l)) (leb (h p) (total s q (last_of 0 l))) y in (
        omega (arith, leb-true k (length l) parts.0, length-take k (standing p)),
        leb-true (h p) (total s q (last_of 0 l)) parts.1,
      )

  pub stops_counts : (k p : ℕ) → 1 ≤ k → stops s k (by_score s q f h) p ≡ true → k ≤ passing (reaching p) s.n
  stops_counts k p some y =
      let parts = stops_parts k p y in
      let t : ℕ → Bool = λ d. leb (h p) (total s q d) in
      let least = le-leb (h p) (total s q (last_of 0 (take k (standing p)))) parts.1 in
      let last : t (get_or (standing p) (k - 1) 0) ≡ true = rw (kept_last (standing p) k some parts.0) at least in
      omega (
        arith,
        parts.0,
        standing_counts p,
        kth_counts (ahead (total s q) (total s q)) t (reaching_on p) (standing p) (k - 1) (standing_sorted p)
            (omega (arith, parts.0)) last,
      )

  pub counts_stop : (k p : ℕ) → 1 ≤ k → k ≤ passing (reaching p) s.n → stops s k (by_score s q f h) p ≡ true
  unfolding stops kept order by_score
  counts_stop k p some enough =
      let t : ℕ → Bool = λ d. leb (h p) (total s q d) in
      let full : k ≤ length (standing p) = omega (arith, standing_counts p, count_most t (standing p)) in
      let last : t (get_or (standing p) (k - 1) 0) ≡ true =
      kth_passes (ahead (total s q) (total s q)) t (reaching_on p) (standing p) (k - 1) (standing_sorted p)
      (omega (arith, standing_counts p)) in
      rw (
        le-leb k (length (take k (standing p))) (omega (arith, length-take k (standing p))),
        kept_last (standing p) k some full,
      )
      last

  -- What its accesses and its threshold have to keep
  pub record Sound : Type 0 where
    pub bounded : (p d : ℕ) → p ≤ s.n → d < s.n → met s (f p) d ≡ false → total s q d ≤ h p
    pub all_met : (d : ℕ) → d < s.n → met s (f s.n) d ≡ true
    pub all_reach : (d : ℕ) → d < s.n → h s.n ≤ total s q d

  module _ (sound : Sound) (k : ℕ) (some : 1 ≤ k) where
    pub sound_stops : k ≤ s.n → stops s k (by_score s q f h) s.n ≡ true
    sound_stops few =
        let all : passing (reaching s.n) s.n ≡ s.n =
        passing_all (reaching s.n) s.n
        (λ d hd. rw (sound.all_met d hd) (le-leb (h s.n) (total s q d) (sound.all_reach d hd))) in
        counts_stop k s.n some (omega arith)

    pub sound_best : (p d e : ℕ) → p ≤ s.n → stops s k (by_score s q f h) p ≡ true → d < s.n
        → among d (kept s k (by_score s q f h) p) ≡ false → among e (kept s k (by_score s q f h) p) ≡ true
        → total s q d ≤ total s q e
    unfolding kept order by_score
    sound_best p d e hp y hd out inside =
        let parts = stops_parts k p y in
        let full : length (take k (standing p)) ≡ k = omega (arith, parts.0, length-take k (standing p)) in
        let last = last_of 0 (take k (standing p)) in
        let below : total s q d ≤ total s q last =
        by_cases (met s (f p) d)
        (λ m. left_low (total s q) (total s q) (met s (f p)) s.n k some full d hd m out)
        (λ m. omega (arith, sound.bounded p d hp hd m, parts.1)) in
        omega (arith, kept_low (total s q) (total s q) (met s (f p)) s.n k some full e inside)

-- no fewer items met and no greater threshold
pub stops_sooner : (s : Poses) (q : Query) (f g : ℕ → List Access) (h j : ℕ → ℕ) (k p : ℕ) → 1 ≤ k
    → ((d : ℕ) → d < s.n → met s (f p) d ≡ true → met s (g p) d ≡ true) → j p ≤ h p
    → stops s k (by_score s q f h) p ≡ true → stops s k (by_score s q g j) p ≡ true
stops_sooner s q f g h j k p some more lower y =
    let fewer =
    passing_wider (reaching s q f h p) (reaching s q g j p) s.n
    (λ d hd r.
    let both = and_yes (met s (f p) d) (leb (h p) (total s q d)) r in
    rw (more d hd both.0)
    (le-leb (j p) (total s q d) (omega (arith, leb-true (h p) (total s q d) both.1)))) in
    counts_stop s q g j k p some (omega (arith, stops_counts s q f h k p some y))

-- ---- thresholds
module _ (s : Poses) (v : Valid s) (q : Query) where
  -- at deeper positions a threshold is no greater
  pub threshold_falls : (b c : ℕ → ℕ) → ((i : ℕ) → i < s.m → b i ≤ c i) → ((i : ℕ) → i < s.m → c i ≤ s.n)
      → threshold s q c ≤ threshold s q b
  unfolding threshold
  threshold_falls b c deeper most =
      overall_rises s q (λ i. score s i (c i - 1)) (λ i. score s i (b i - 1))
      (λ i hi.
      let size = v.size.n_least in
      v.falls i (b i - 1) (c i - 1) hi (omega (arith, deeper i hi)) (omega (arith, most i hi)))

  -- no item that stands below all its positions scores more
  pub threshold_bounds : (b : ℕ → ℕ) (d : ℕ) → d < s.n → ((i : ℕ) → i < s.m → b i ≤ place s i d)
      → total s q d ≤ threshold s q b
  unfolding threshold total
  threshold_bounds b d hd below =
      overall_rises s q (λ i. score s i (place s i d)) (λ i. score s i (b i - 1))
      (λ i hi. v.falls i (b i - 1) (place s i d) hi (omega (arith, below i hi)) (v.has_place i d hi hd))

  -- at the last positions every item scores as much or more
  pub threshold_least : (b : ℕ → ℕ) (d : ℕ) → d < s.n → ((i : ℕ) → i < s.m → b i ≡ s.n)
      → threshold s q b ≤ total s q d
  unfolding threshold total
  threshold_least b d hd last =
      overall_rises s q (λ i. score s i (b i - 1)) (λ i. score s i (place s i d))
      (λ i hi.
      let inside = v.has_place i d hi hd in
      v.falls i (place s i d) (b i - 1) hi (omega (arith, last i hi)) (omega (arith, last i hi)))

  module _ (f : ℕ → List Access) (covers : (p : ℕ) → p ≤ s.n → Covers s (f p) p) where
    every_met : (d : ℕ) → d < s.n → met s (f s.n) d ≡ true
    every_met d hd =
        let one = v.size.m_least in
        visited_met s (f s.n) 0 d one (covers s.n (omega arith) 0 (place s 0 d) one (v.has_place 0 d one hd))

    best_last : (i : ℕ) → i < s.m → best s (f s.n) i ≡ s.n
    best_last i hi =
        let tr = f s.n in
        let reached = best_reaches s tr i s.n (omega arith) (λ x l. covers s.n (omega arith) i x hi l) in
        omega (arith, best_most s tr i)

    -- TA's threshold, at position p of each list
    pub covers_sound : Sound s q f (λ p. threshold s q (λ i. p))
    covers_sound =
        record {
          bounded = λ p d hp hd unmet.
              threshold_bounds (λ i. p) d hd (λ i hi. unmet_below s (f p) i p d hi (λ x l. covers p hp i x hi l) unmet);
          all_met = every_met;
          all_reach = λ d hd. threshold_least (λ i. s.n) d hd (λ i hi. refl);
        }

    -- BPA's and BPA2's threshold, at each list's best position
    pub best_sound : Sound s q f (λ p. threshold s q (best s (f p)))
    best_sound =
        record {
          bounded = λ p d hp hd unmet.
              threshold_bounds (best s (f p)) d hd
              (λ i hi. unmet_below s (f p) i (best s (f p) i) d hi (best_visited s (f p) i) unmet);
          all_met = every_met;
          all_reach = λ d hd. threshold_least (best s (f s.n)) d hd best_last;
        }
