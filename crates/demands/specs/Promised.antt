-- The four searches keep their promise.
--     owed                       what any search owes, from what is its own: it stops at row n, and it keeps the best
--     tallied_from               a tally's facts, from accesses that lie inside and visit no position more than m times
--     ta_owed, bpa_owed, bpa2_owed, nra_owed     the four
--     bpa_reads, bpa2_reads      rows and rounds compared
--     ta_all, bpa_all, bpa2_all  how many accesses each makes in all
--     promised                   the theorem
-- Assumes nothing.
use Rattle.std.specs.Prelude.{◌≡◌, refl, Bool, true, false, List, ℕ, ◌-◌, ◌*◌, ◌≤◌, ◌<◌, ltb, length}
use Rattle.std.proofs.Common.{ap, ◌∙◌, mul-one, mul-zero, mul_comm, mul_assoc, mul-le-mul_right, arith}
use Rattle.model.specs.Given.{Poses, Query, total}
use Rattle.model.specs.Accesses.{sorted, direct, random, Access, rows_ta, rounds, rows_nra, times, met, best, tally}
use Rattle.model.specs.Searches.{Search, among, kept, stops, rows, threshold, by_score, TA, BPA, BPA2, NRA}
use Rattle.laws.specs.Accepted.{Valid}
use Rattle.laws.specs.Lookups.{once, lookup_made_own, lookup_made_other, lookup_made_random}
use Rattle.laws.specs.Passing.{passing}
use Rattle.laws.specs.Sums.{Inside, made_length, tally_sum, table_most}
use Rattle.laws.specs.Looked.{Looked, looked_inside, looked_length, looked_own, looked_other, looked_random}
use Rattle.laws.specs.Rows.{rows_looked, rows_made, rows_covers, rows_most}
use Rattle.laws.specs.Rounds.{rounds_turns, rounds_once, rounds_covers, rounds_length}
use Rattle.demands.specs.Stopping
use Rattle.demands.specs.Scores.{Sound, sound_stops, sound_best, covers_sound, best_sound}
use Rattle.demands.specs.Compared.{bpa_stops, bpa2_stops}
use Rattle.demands.specs.Bounds.{nra_times, nra_inside, nra_made, low_bound, high_bound, nra_stops, nra_best}
use Rattle.demands.specs.Promise.{Tallied, Owed, all_made, Claim}

-- what any search owes, from its two own facts: it stops at row n, and where it stops it keeps the best
owed : (s : Poses) → Valid s → (q : Query) (k : ℕ) (r : Search) → stops s k r s.n ≡ true
    → ((p d e : ℕ) → p ≤ s.n → stops s k r p ≡ true → d < s.n → among d (kept s k r p) ≡ false
    → among e (kept s k r p) ≡ true → total s q d ≤ total s q e)
    → ((p : ℕ) → p ≤ s.n → Tallied s (r.accesses p)) → Owed s q k r
owed s v q k r last highest tallied =
    let n_least = v.size.n_least in
    let own = Stopping.stops_own s k r n_least last in
    let most = Stopping.rows_most s k r n_least in
    let size = Stopping.kept_size s k r (rows s k r) own in
    record {
      last_row = last;
      own_test = own;
      row_least = Stopping.rows_least s k r;
      row_most = most;
      not_sooner = Stopping.rows_first s k r;
      size = size;
      items = λ d y. Stopping.kept_below s k r (rows s k r) d y;
      different = λ a b ha hb. Stopping.kept_once s k r (rows s k r) a b (omega arith) (omega arith);
      highest = λ d e hd. highest (rows s k r) d e most own hd;
      tallied = tallied;
    }

tallied_from : (s : Poses) (tr : List Access) → Inside s tr → ((i p : ℕ) → i < s.m → p < s.n → times tr i p ≤ s.m)
    → Tallied s tr
unfolding tally
tallied_from s tr inside few =
    record { adds_up = tally_sum inside; at_most_m = λ x. table_most (times tr) s.n s.m s.m x few }

once_most : (b : Bool) → once b ≤ 1
once_most true = omega arith
once_most false = omega arith

module _ (s : Poses) (v : Valid s) (q : Query) where
  rows_tallied : (p : ℕ) → p ≤ s.n → Tallied s (rows_ta s p)
  rows_tallied p hp =
      tallied_from s (rows_ta s p) (looked_inside s v (rows_looked s p hp)) (λ i x hi hx. rows_most s v p i x hp hi hx)

  rounds_tallied : (r : ℕ) → Tallied s (rounds s r)
  rounds_tallied r =
      tallied_from s (rounds s r) (looked_inside s v (rounds_turns s v r).looked)
      (λ i x hi hx. omega (arith, rounds_once s v r i x hi hx))

  nra_tallied : (p : ℕ) → p ≤ s.n → Tallied s (rows_nra s p)
  nra_tallied p hp =
      tallied_from s (rows_nra s p) (nra_inside s p hp)
      (λ i x hi hx. omega (arith, nra_times s p i x hi, once_most (ltb x p)))

  -- the number of accesses of p rows
  rows_length : (p : ℕ) → p ≤ s.n → length (rows_ta s p) ≡ p * (s.m * s.m)
  rows_length p hp = looked_length s v refl (rows_looked s p hp) ∙ mul_assoc p s.m s.m

  module _ (k : ℕ) (some : 1 ≤ k) (few : k ≤ s.n) where
    by_score_owed : (f : ℕ → List Access) (h : ℕ → ℕ) → Sound s q f h → ((p : ℕ) → p ≤ s.n → Tallied s (f p))
        → Owed s q k (by_score s q f h)
    unfolding by_score
    by_score_owed f h sound tallied =
        owed s v q k (by_score s q f h) (sound_stops s q f h sound k some few) (sound_best s q f h sound k some) tallied

    ta_owed : Owed s q k (TA s q)
    unfolding TA
    ta_owed =
        by_score_owed (rows_ta s) (λ p. threshold s q (λ i. p))
        (covers_sound s v q (rows_ta s) (rows_covers s v)) rows_tallied

    bpa_owed : Owed s q k (BPA s q)
    unfolding BPA
    bpa_owed =
        by_score_owed (rows_ta s) (λ p. threshold s q (best s (rows_ta s p)))
        (best_sound s v q (rows_ta s) (rows_covers s v)) rows_tallied

    bpa2_owed : Owed s q k (BPA2 s q)
    unfolding BPA2
    bpa2_owed =
        by_score_owed (rounds s) (λ p. threshold s q (best s (rounds s p)))
        (best_sound s v q (rounds s) (rounds_covers s v)) (λ r _. rounds_tallied r)

    nra_owed : Owed s q k (NRA s q)
    unfolding NRA
    nra_owed = owed s v q k (NRA s q) (nra_stops s v q k some few) (λ p d e _. nra_best s v q k some p d e) nra_tallied

    bpa_reads : rows s k (BPA s q) ≤ rows s k (TA s q)
    bpa_reads =
        Stopping.rows_within s k (BPA s q) (rows s k (TA s q)) ta_owed.row_least
        (bpa_stops s v q k some (rows s k (TA s q)) ta_owed.row_most ta_owed.own_test)

    bpa2_reads : rows s k (BPA2 s q) ≤ rows s k (BPA s q)
    bpa2_reads =
        Stopping.rows_within s k (BPA2 s q) (rows s k (BPA s q)) bpa_owed.row_least
        (bpa2_stops s v q k some (rows s k (BPA s q)) bpa_owed.row_most bpa_owed.own_test)

    -- all accesses are the length of their list
    ta_all : all_made s k (TA s q) ≡ rows s k (TA s q) * (s.m * s.m)
    unfolding all_made TA by_score
    ta_all = made_length (rows_ta s (rows s k (TA s q))) ∙ rows_length (rows s k (TA s q)) ta_owed.row_most

    bpa_all : all_made s k (BPA s q) ≡ rows s k (BPA s q) * (s.m * s.m)
    unfolding all_made BPA by_score
    bpa_all = made_length (rows_ta s (rows s k (BPA s q))) ∙ rows_length (rows s k (BPA s q)) bpa_owed.row_most

    bpa2_all : all_made s k (BPA2 s q) ≤ rows s k (BPA2 s q) * (s.m * s.m)
    unfolding all_made BPA2 by_score
    bpa2_all = rw (made_length (rounds s (rows s k (BPA2 s q)))) (rounds_length s v (rows s k (BPA2 s q)))

-- no access of another kind
none_made : (p m : ℕ) → p * (m * 0) ≡ 0
none_made p m = ap (◌*◌ p) (mul-zero m) ∙ mul-zero p

pub promised : Claim
promised s v q k some few =
    let items_met : ℕ → ℕ = λ r. passing (met s (rounds s r)) s.n in
    let looked : (r : ℕ) → Looked s direct (rounds s r) (items_met r) = λ r. (rounds_turns s v r).looked in
    record {
      ta = ta_owed s v q k some few;
      bpa = bpa_owed s v q k some few;
      bpa2 = bpa2_owed s v q k some few;
      nra = nra_owed s v q k some few;
      nra_low = low_bound s v q;
      nra_high = high_bound s v q;
      bpa_rows = bpa_reads s v q k some few;
      bpa2_rows = bpa2_reads s v q k some few;
      bpa2_once = rounds_once s v;
      bpa2_length = λ r. looked_length s v refl (looked r) ∙ mul_comm (items_met r) s.m;
      bpa2_direct = λ r. looked_own s v refl (looked r);
      bpa2_random = λ r.
          rw (looked_random s v refl (looked r), looked_own s v refl (looked r)) (mul_comm (items_met r) (s.m - 1));
      bpa2_sorted = λ r. looked_other s v refl sorted refl refl (looked r);
      rows_sorted = λ p.
          rows_made s sorted 1 p (λ i x hi. lookup_made_own s sorted i x refl refl) ∙ ap (◌*◌ p) (mul-one s.m);
      rows_random = λ p.
          rows_made s random (s.m - 1) p (λ i x hi. omega (arith, lookup_made_random s sorted i x refl hi));
      rows_direct = λ p.
          rows_made s direct 0 p (λ i x hi. lookup_made_other s direct sorted i x refl refl) ∙ none_made p s.m;
      nra_sorted = λ p. nra_made s sorted p ∙ ap (◌*◌ p) (mul-one s.m);
      nra_direct = λ p. nra_made s direct p ∙ none_made p s.m;
      nra_random = λ p. nra_made s random p ∙ none_made p s.m;
      bpa2_total =
          omega (
            arith,
            bpa2_all s v q k some few,
            bpa_all s v q k some few,
            mul-le-mul_right (s.m * s.m) (bpa2_reads s v q k some few),
          );
      bpa_total =
          omega (
            arith,
            bpa_all s v q k some few,
            ta_all s v q k some few,
            mul-le-mul_right (s.m * s.m) (bpa_reads s v q k some few),
          );
    }
