-- What is claimed of accepted calls holds.
--     Gives, gives       what an accepted call tells and leaves, over its pose set, query and k
--     returns            what is claimed of a search, from what it owes
--     returned_ta .. returned_nra        the four
--     delivered          what is claimed of the four together
-- Assumes nothing.
use Rattle.std.specs.Prelude.{◌≡◌, true, false, List, map, ℕ, ◌≤◌, ◌<◌, length, get_or, drop}
use Rattle.std.proofs.Common.{sym, subst, ◌∙◌, le_refl, arith}
use Rattle.std.proofs.Math.Path.{ap}
use Rattle.std.proofs.lemmas.List.{length-map}
use Rattle.std.proofs.Math.Seq.{take-append_seam}
use Rattle.model.specs.Words.{over}
use Rattle.model.specs.Given.{Poses, Query, total}
use Rattle.model.specs.Accesses.{tally, times, rounds}
use Rattle.model.specs.Searches.{Search, among, kept, rows, by_score, TA, BPA, BPA2, NRA}
use Rattle.model.specs.Refusals.{Lent, poses_of, query_of}
use Rattle.laws.specs.Tests.{by_cases}
use Rattle.laws.specs.Lists.{map_at, over_at, table_length, table_at, place_of}
use Rattle.laws.specs.Accepted.{Valid}
use Rattle.laws.specs.Ranking.{among_at, among_found}
use Rattle.laws.specs.Sums.{sum, made_length}
use Rattle.demands.specs.Promise.{Owed, Promise, all_made}
use Rattle.demands.specs.Promised.{promised}
use Rattle.answers.specs.declared.Answer.{Answer}
use Rattle.answering.specs.Promises.{Finds, accepted_finds, accepted_call}
use Rattle.promises.specs.Calls.{Call, Returns, Delivered}

-- What an accepted call tells and leaves, over its pose set, query and k
pub record Gives (s : Poses) (k : ℕ) (r : Search) (a : Answer) (picks lows highs marks : List ℕ) : Type 0 where
  pub lent : Lent
  pub finds : Finds s k r lent a picks lows highs marks

module _ {r : Poses → Query → Search} {s : Poses} {q : Query} {k : ℕ} {a : Answer} {picks lows highs marks : List ℕ} (c : Call r s q k a picks lows highs marks) where
  gives : Gives s k (r s q) a picks lows highs marks
  gives =
      let l = c.lent in
      let own : Gives (poses_of l) l.k (r (poses_of l) (query_of l)) a picks lows highs marks =
      record { lent = l; finds = accepted_finds c.searched c.accepted } in
      let with_k = subst (λ (x : ℕ). Gives (poses_of l) x (r (poses_of l) (query_of l)) a picks lows highs marks) c.same_k own in
      let with_query = subst (λ (x : Query). Gives (poses_of l) k (r (poses_of l) x) a picks lows highs marks) c.same_query with_k in
      subst (λ (x : Poses). Gives x k (r x q) a picks lows highs marks) c.same_poses with_query

  lists_valid : Valid s
  lists_valid = subst Valid c.same_poses (accepted_call c.searched c.accepted).lists_valid

  k_least : 1 ≤ k
  k_least = rw (← c.same_k) (accepted_call c.searched c.accepted).k_least

  k_most : k ≤ s.n
  unfolding poses_of
  k_most =
      let most = (accepted_call c.searched c.accepted).k_most in
      let same_n : c.lent.n ≡ s.n = ap (λ (x : Poses). x.n) c.same_poses in
      rw (← c.same_k, ← same_n) most

  pub all_owed : Promise s q k
  all_owed = promised s lists_valid q k k_least k_most

-- what is claimed of a search, from what it owes and from bounds of an item's score
returns : (s : Poses) (q : Query) (k : ℕ) (r : Search) (a : Answer) (picks lows highs marks : List ℕ) → Owed s q k r
    → ((d : ℕ) → d < s.n → r.low (rows s k r) d ≤ total s q d) → ((d : ℕ) → d < s.n → total s q d ≤ r.high (rows s k r) d)
    → Gives s k r a picks lows highs marks → Returns s q k r a picks lows highs marks
unfolding over tally
returns s q k r a picks lows highs marks owed below above g =
    let f = g.finds in
    let p = rows s k r in
    let best = kept s k r p in
    let tr = r.accesses p in
    let size : length best ≡ k = owed.size in
    let pick : (j : ℕ) → j < k → get_or picks j 0 ≡ get_or best j 0 =
    λ j h. rw f.slices_are.shortlist.picks_are (over_at best g.lent.picks j 0 (omega arith)) in
    let low : (j : ℕ) → j < k → get_or lows j 0 ≡ r.low p (get_or picks j 0) = λ j h.
    rw (pick j h, f.slices_are.shortlist.lows_are)
    (over_at (map (r.low p) best) g.lent.lows j 0 (omega (arith, length-map best (r.low p))) ∙ map_at (r.low p) best j (omega arith)) in
    let high : (j : ℕ) → j < k → get_or highs j 0 ≡ r.high p (get_or picks j 0) = λ j h.
    rw (pick j h, f.slices_are.shortlist.highs_are)
    (over_at (map (r.high p) best) g.lent.highs j 0 (omega (arith, length-map best (r.high p))) ∙ map_at (r.high p) best j (omega arith)) in
    let item : (j : ℕ) → j < k → get_or picks j 0 < s.n = λ j h. rw (pick j h) (owed.items (get_or best j 0) (among_at best j (omega arith))) in
    let marked = table_length (times tr) s.n s.m in
    record {
      items = item;
      different = λ i j hi hj e. owed.different i j hi hj (sym (pick i hi) ∙ e ∙ pick j hj);
      highest = λ d j hd left h.
          rw (pick j h)
          (owed.highest d (get_or best j 0) hd
          (by_cases (among d best)
          (λ (y : among d best ≡ true).
          let found = among_found d best y in
          absurd (left found.0 (omega (arith, found.1)) (pick found.0 (omega (arith, found.1)) ∙ found.2)))
          (λ (z : among d best ≡ false). z))
          (among_at best j (omega arith)));
      low_below = λ j h. rw (low j h) (below (get_or picks j 0) (item j h));
      high_above = λ j h. rw (high j h) (above (get_or picks j 0) (item j h));
      rows_least = rw f.rows_are owed.row_least;
      rows_most = rw f.rows_are owed.row_most;
      own_test = rw f.rows_are owed.own_test;
      not_sooner = λ x least h. owed.not_sooner x least (rw (← f.rows_are) h);
      adds_up =
          rw (f.sorted_are, f.direct_are, f.random_are, f.slices_are.tally_is)
          ((owed.tallied p owed.row_most).adds_up ∙ ap sum
          (sym (rw (← marked) (take-append_seam (tally s tr) (drop (length (tally s tr)) g.lent.tally)))));
      tally_most = λ x h. rw (f.slices_are.tally_is, over_at (tally s tr) g.lent.tally x 0 (omega (arith, marked)))
          ((owed.tallied p owed.row_most).at_most_m x);
    }

pub returned_ta : {s : Poses} {q : Query} {k : ℕ} {a : Answer} {picks lows highs marks : List ℕ}
    → Call TA s q k a picks lows highs marks → Returns s q k (TA s q) a picks lows highs marks
unfolding TA by_score
returned_ta {s} {q} {k} {a} {picks} {lows} {highs} {marks} c =
    returns s q k (TA s q) a picks lows highs marks (all_owed c).ta (λ d _. le_refl (total s q d)) (λ d _. le_refl (total s q d)) (gives c)

pub returned_bpa : {s : Poses} {q : Query} {k : ℕ} {a : Answer} {picks lows highs marks : List ℕ}
    → Call BPA s q k a picks lows highs marks → Returns s q k (BPA s q) a picks lows highs marks
unfolding BPA by_score
returned_bpa {s} {q} {k} {a} {picks} {lows} {highs} {marks} c =
    returns s q k (BPA s q) a picks lows highs marks (all_owed c).bpa (λ d _. le_refl (total s q d)) (λ d _. le_refl (total s q d)) (gives c)

pub returned_bpa2 : {s : Poses} {q : Query} {k : ℕ} {a : Answer} {picks lows highs marks : List ℕ}
    → Call BPA2 s q k a picks lows highs marks → Returns s q k (BPA2 s q) a picks lows highs marks
unfolding BPA2 by_score
returned_bpa2 {s} {q} {k} {a} {picks} {lows} {highs} {marks} c =
    returns s q k (BPA2 s q) a picks lows highs marks (all_owed c).bpa2 (λ d _. le_refl (total s q d)) (λ d _. le_refl (total s q d)) (gives c)

pub returned_nra : {s : Poses} {q : Query} {k : ℕ} {a : Answer} {picks lows highs marks : List ℕ}
    → Call NRA s q k a picks lows highs marks → Returns s q k (NRA s q) a picks lows highs marks
unfolding NRA
returned_nra {s} {q} {k} {a} {picks} {lows} {highs} {marks} c =
    let all = all_owed c in
    returns s q k (NRA s q) a picks lows highs marks all.nra (all.nra_low (rows s k (NRA s q))) (all.nra_high (rows s k (NRA s q))) (gives c)

-- what is claimed of the four together
pub delivered : {s : Poses} {q : Query} {k : ℕ} {ta bpa bpa2 nra : Answer} {p₀ l₀ h₀ t₀ p₁ l₁ h₁ t₁ p₂ l₂ h₂ t₂ p₃ l₃ h₃ t₃ : List ℕ}
    → Call TA s q k ta p₀ l₀ h₀ t₀ → Call BPA s q k bpa p₁ l₁ h₁ t₁ → Call BPA2 s q k bpa2 p₂ l₂ h₂ t₂ → Call NRA s q k nra p₃ l₃ h₃ t₃
    → Delivered s q k ta bpa bpa2 nra t₂
unfolding TA BPA BPA2 NRA by_score all_made tally
delivered {s} {q} {k} {ta} {bpa} {bpa2} {nra} {t₂ = t₂} c₀ c₁ c₂ c₃ =
    let all = all_owed c₀ in
    let f₀ = (gives c₀).finds in
    let f₁ = (gives c₁).finds in
    let f₂ = (gives c₂).finds in
    let f₃ = (gives c₃).finds in
    let made₂ = rounds s (rows s k (BPA2 s q)) in
    let marked = table_length (times made₂) s.n s.m in
    record {
      bpa_rows = rw (f₀.rows_are, f₁.rows_are) all.bpa_rows;
      bpa2_rows = rw (f₁.rows_are, f₂.rows_are) all.bpa2_rows;
      bpa2_once = λ x h.
          let at = place_of s.n s.m x h in
          rw (
            f₂.slices_are.tally_is,
            over_at (tally s made₂) (gives c₂).lent.tally x 0 (omega (arith, marked)),
            at.4,
            table_at (times made₂)
                s.n s.m at.0 at.1 0 at.2 at.3,
          )
          (all.bpa2_once (rows s k (BPA2 s q)) at.0 at.1 at.2 at.3);
      bpa2_met = rw (f₂.direct_are, f₂.rows_are) (all.bpa2_direct (rows s k (BPA2 s q)));
      bpa2_all = rw (f₂.sorted_are, f₂.direct_are, f₂.random_are, f₂.rows_are) (made_length made₂ ∙ all.bpa2_length (rows s k (BPA2 s q)));
      bpa2_random = rw (f₂.random_are, f₂.direct_are) (all.bpa2_random (rows s k (BPA2 s q)));
      bpa2_sorted = rw f₂.sorted_are (all.bpa2_sorted (rows s k (BPA2 s q)));
      ta_sorted = rw (f₀.sorted_are, f₀.rows_are) (all.rows_sorted (rows s k (TA s q)));
      ta_random = rw (f₀.random_are, f₀.rows_are) (all.rows_random (rows s k (TA s q)));
      ta_direct = rw f₀.direct_are (all.rows_direct (rows s k (TA s q)));
      bpa_sorted = rw (f₁.sorted_are, f₁.rows_are) (all.rows_sorted (rows s k (BPA s q)));
      bpa_random = rw (f₁.random_are, f₁.rows_are) (all.rows_random (rows s k (BPA s q)));
      bpa_direct = rw f₁.direct_are (all.rows_direct (rows s k (BPA s q)));
      nra_sorted = rw (f₃.sorted_are, f₃.rows_are) (all.nra_sorted (rows s k (NRA s q)));
      nra_direct = rw f₃.direct_are (all.nra_direct (rows s k (NRA s q)));
      nra_random = rw f₃.random_are (all.nra_random (rows s k (NRA s q)));
      bpa2_total = rw (f₁.sorted_are, f₁.direct_are, f₁.random_are, f₂.sorted_are, f₂.direct_are, f₂.random_are) all.bpa2_total;
      bpa_total = rw (f₀.sorted_are, f₀.direct_are, f₀.random_are, f₁.sorted_are, f₁.direct_are, f₁.random_are) all.bpa_total;
    }
