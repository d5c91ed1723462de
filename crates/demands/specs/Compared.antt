-- TA, BPA and BPA2 compared, row by row.
--     met_wider              accesses that visit more have met no fewer items
--     bpa_stops, bpa2_stops      where TA stops BPA stops; where BPA stops BPA2 stops
-- Assumes nothing.
use Rattle.std.specs.Prelude.{◌≡◌, List, ℕ, ◌≤◌, ◌<◌}
use Rattle.std.proofs.Math.Bool.{true}
use Rattle.model.specs.Given.{Poses, Query, place}
use Rattle.model.specs.Accesses.{Access, rows_ta, rounds, visited, met, best}
use Rattle.model.specs.Searches.{stops, threshold, TA, BPA, BPA2}
use Rattle.laws.specs.Tests.{some_found}
use Rattle.laws.specs.Accepted.{Valid}
use Rattle.laws.specs.Visits.{visited_met, best_most, best_reaches, best_wider}
use Rattle.laws.specs.Looked.{looked_whole}
use Rattle.laws.specs.Rows.{rows_covers, rows_inside}
use Rattle.laws.specs.Rounds.{rounds_turns, rounds_covers}
use Rattle.demands.specs.Scores.{stops_sooner, threshold_falls}

pub met_wider : (s : Poses) → Valid s → (tr more : List Access)
    → ((i p : ℕ) → i < s.m → p < s.n → visited tr i p ≡ true → visited more i p ≡ true)
    → (d : ℕ) → d < s.n → met s tr d ≡ true → met s more d ≡ true
unfolding met
met_wider s v tr more wider d hd y =
    let at = some_found (λ i. visited tr i (place s i d)) s.m y in
    let i = at.0 in
    visited_met s more i d at.1 (wider i (place s i d) at.1 (v.has_place i d at.1 hd) at.2)

module _ (s : Poses) (v : Valid s) (q : Query) (k : ℕ) (some : 1 ≤ k) where
  pub bpa_stops : (p : ℕ) → p ≤ s.n → stops s k (TA s q) p ≡ true → stops s k (BPA s q) p ≡ true
  unfolding TA BPA
  bpa_stops p hp y =
      stops_sooner s q (rows_ta s) (rows_ta s)
      (λ p. threshold s q (λ i. p)) (λ p. threshold s q (best s (rows_ta s p))) k p some
      (λ d hd m. m)
      (threshold_falls s v q (λ i. p) (best s (rows_ta s p))
      (λ i hi. best_reaches s (rows_ta s p) i p hp (λ x l. rows_covers s v p hp i x hi l))
      (λ i hi. best_most s (rows_ta s p) i))
      y

  pub bpa2_stops : (p : ℕ) → p ≤ s.n → stops s k (BPA s q) p ≡ true → stops s k (BPA2 s q) p ≡ true
  unfolding BPA BPA2
  bpa2_stops p hp y =
      let wider : (i x : ℕ) → i < s.m → x < s.n → visited (rows_ta s p) i x ≡ true → visited (rounds s p) i x ≡ true =
      rows_inside s v p (rounds s p) hp (looked_whole s v (rounds_turns s v p).looked) (rounds_covers s v p hp) in
      stops_sooner s q (rows_ta s) (rounds s)
      (λ p. threshold s q (best s (rows_ta s p))) (λ p. threshold s q (best s (rounds s p))) k p some
      (met_wider s v (rows_ta s p) (rounds s p) wider)
      (threshold_falls s v q (best s (rows_ta s p)) (best s (rounds s p))
      (λ i hi. best_wider s (rows_ta s p) (rounds s p) i (λ x hx. wider i x hi hx))
      (λ i hi. best_most s (rounds s p) i))
      y
