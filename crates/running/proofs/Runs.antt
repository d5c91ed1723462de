-- From what the two kinds of run promise to what the run of a search by its number promises.
--     kept_k             TA, BPA and BPA2 keep k items when they stop
--     scored_runs        TA, BPA and BPA2, with the lows repeated as highs
--     bounded_runs       NRA
-- Assumes nothing.
use mathlib.Core.Path.{◌≡◌, refl, sym, ap, subst, ◌∙◌}
use mathlib.Core.List.{List, map}
use Prim.Native.Nat.{ℕ, zero, suc, ◌≤◌}
use native.Mathlib.Omega.{arith}
use lib.ListN.{length, take, length-map}
use Rattle.model.specs.Words.{over}
use Rattle.model.specs.Given.{Poses, Query, total}
use Rattle.model.specs.Searches.{Search, kept, rows, by_score, NRA}
use Rattle.laws.specs.Lists.{over_taken}
use Rattle.laws.specs.Accepted.{Valid}
use Rattle.demands.specs.Promised.{promised}
use Rattle.meeting.specs.declared.Found.{Found}
use Rattle.meeting.specs.Clauses.{Ran}
use Rattle.scored.specs.Run.{search_by, search_ta, search_bpa, search_bpa2, RanBy}
use Rattle.bounded.specs.Clauses.{Finished}
use Rattle.completing.specs.Clauses.{OnlySorted}
use Rattle.running.specs.Clauses.{search_at, Did, Runs}

-- the three that go by score are the first three
named : (which : ℕ) (s : Poses) (q : Query) → which ≤ 2 → search_by which s q ≡ search_at which s q
named zero s q h = search_ta s q
named (suc zero) s q h = search_bpa s q
named (suc (suc zero)) s q h = search_bpa2 s q
named (suc (suc (suc which))) s q h = absurd (omega (arith, h))

-- and any other is NRA
last_named : (which : ℕ) (s : Poses) (q : Query) → 3 ≤ which → NRA s q ≡ search_at which s q
last_named zero s q h = absurd (omega (arith, h))
last_named (suc zero) s q h = absurd (omega (arith, h))
last_named (suc (suc zero)) s q h = absurd (omega (arith, h))
last_named (suc (suc (suc which))) s q h = refl

-- TA, BPA and BPA2 keep k items when they stop
kept_k : (which : ℕ) (s : Poses) (q : Query) (k : ℕ) → which ≤ 2 → Valid s → 1 ≤ k → k ≤ s.n
    → length (kept s k (search_by which s q) (rows s k (search_by which s q))) ≡ k
kept_k zero s q k h v some most = rw (search_ta s q) (promised s v q k some most).ta.size
kept_k (suc zero) s q k h v some most = rw (search_bpa s q) (promised s v q k some most).bpa.size
kept_k (suc (suc zero)) s q k h v some most = rw (search_bpa2 s q) (promised s v q k some most).bpa2.size
kept_k (suc (suc (suc which))) s q k h v some most = absurd (omega (arith, h))

module _ (which : ℕ) (s : Poses) (q : Query) (k : ℕ) (picks₀ lows₀ highs₀ tally₀ : List ℕ) (d : Found) (picks lows highs marks : List ℕ) where
  pub scored_runs : which ≤ 2 → Valid s → 1 ≤ k → k ≤ s.n
      → RanBy which s q k picks₀ lows₀ tally₀ d picks lows marks → highs ≡ over (take k lows) highs₀
      → Runs which s q k picks₀ lows₀ highs₀ tally₀ d picks lows highs marks
  unfolding search_by by_score
  scored_runs few v some most ran copied =
      let by = search_by which s q in
      let best = kept s k by d.rows in
      let size : length (map (total s q) best) ≡ k = length-map best (total s q) ∙ rw ran.rows_are (kept_k which s q k few v some most) in
      let did : Did s k by d =
      record { rows_are = ran.rows_are; sorted_are = ran.sorted_are; direct_are = ran.direct_are; random_are = ran.random_are } in
      let wrote : Ran s k by d.rows picks₀ lows₀ highs₀ tally₀ picks lows highs marks =
      record {
        shortlist =
            record {
              picks_are = ran.picks_are;
              lows_are = ran.lows_are;
              highs_are = copied ∙ ap (λ (x : List ℕ). over x highs₀) (ap (take k) ran.lows_are ∙ over_taken (map (total s q) best) lows₀ k size);
            };
        tally_is = ran.tally_is;
      } in
      let same = named which s q few in
      record {
        did = subst (λ (r : Search). Did s k r d) same did;
        ran = subst (λ (r : Search). Ran s k r d.rows picks₀ lows₀ highs₀ tally₀ picks lows highs marks) same wrote;
      }

  pub bounded_runs : {row : ℕ} → 3 ≤ which → Valid s → 1 ≤ k → k ≤ s.n
      → Finished s q k row picks₀ lows₀ highs₀ tally₀ picks lows highs marks → OnlySorted s.m row d
      → Runs which s q k picks₀ lows₀ highs₀ tally₀ d picks lows highs marks
  unfolding NRA
  bounded_runs {row} last v some most finished counted =
      let all = promised s v q k some most in
      let p = counted.rows_are in
      let did : Did s k (NRA s q) d =
      record {
        rows_are = p ∙ finished.rows_are;
        sorted_are = counted.sorted_are ∙ rw p (sym (all.nra_sorted row));
        direct_are = counted.direct_are ∙ sym (all.nra_direct d.rows);
        random_are = counted.random_are ∙ sym (all.nra_random d.rows);
      } in
      let wrote : Ran s k (NRA s q) d.rows picks₀ lows₀ highs₀ tally₀ picks lows highs marks = rw p finished.ran in
      let same = last_named which s q last in
      record {
        did = subst (λ (r : Search). Did s k r d) same did;
        ran = subst (λ (r : Search). Ran s k r d.rows picks₀ lows₀ highs₀ tally₀ picks lows highs marks) same wrote;
      }
