-- The state between two rows or rounds, and after one: what the loop of `run` keeps.
--     Between            between two rows or rounds: no row so far ends the search
--     between_starts     before the first
--     After              one row or round later, before its test is made
--     is_last            the row or round ends the search, as the code tests it
--     stepping_between, advancing_then       what a step asks, and then a walk to the threshold's positions
--     row_made, limited_after, after_goes_on     a step; what its test asks; the test fails
--     run_ends           the test holds: what `run` promises
-- Assumes nothing.
use mathlib.Core.Path.{◌≡◌, refl, sym, ap, ◌∙◌}
use mathlib.Core.Bool.{Bool, true, false, cond, ◌&&◌, ◌||◌}
use mathlib.Core.Logic.{⊎_elim}
use mathlib.Core.List.{List, ◌++◌, map}
use Prim.Native.Nat.{ℕ, ◌+◌, ◌-◌, ◌*◌, ◌≤◌, ◌<◌}
use native.Mathlib.Nat.{eq-or-lt_of_le, suc-mul}
use native.Mathlib.Numerals.{add-one}
use native.Mathlib.Omega.{arith}
use lib.Dec.{eqb, leb}
use lib.ListN.{length, get_or, take, drop, replicate, length-replicate}
use borrow.Author.Tests.{eqb-false}
use Rattle.model.specs.Words.{table, over}
use Rattle.model.specs.Given.{Poses, Query, total}
use Rattle.model.specs.Accesses.{Access, times, made, tally}
use Rattle.model.specs.Searches.{stops, rows}
use Rattle.laws.specs.Tests.{or_no}
use Rattle.laws.specs.Lists.{table_length, over_over}
use Rattle.laws.specs.Lookups.{made_none}
use Rattle.poses.specs.Sets.{set_of}
use Rattle.poses.specs.Rules.{rule_number}
use Rattle.meeting.specs.Clauses.{query_of, Limited, limit_at}
use Rattle.meeting.specs.declared.Accepted.{Accepted}
use Rattle.meeting.specs.declared.Found.{Found}
use Rattle.meeting.specs.declared.Reading.{Reading}
use Rattle.noting.specs.Clauses.{Advancing}
use Rattle.noting.specs.declared.shortlist.Shortlist.{Shortlist}
use Rattle.stepping.specs.State.{ranking, State, VisitedUpTo}
use Rattle.stepping.specs.Steps.{small_of}
use Rattle.stepping.specs.Best.{walked_best, walkable_of}
use Rattle.judging.specs.Clauses.{Positioned, Counted}
use Rattle.scored.specs.Run.{steps_by, reach_by, kind_by, search_by, Stepping, Stepped, RanBy}
use Rattle.scored.proofs.Running.{counts_are, reached_at, limit_is, kept_is, stops_told, row_is, state_start, steps_none}

state_self : {s : Poses} {q : Query} {tr : List Access} {picks₀ lows₀ tally₀ marks : List ℕ} {l : Shortlist}
    → State s q tr picks₀ lows₀ tally₀ l marks → State s q tr l.picks.now l.lows.now marks l marks
state_self {s} {q} {tr} {picks₀} {lows₀} {tally₀} {l = l} at =
    let t = take l.count (ranking s q tr) in
    let again : (t lent now : List ℕ) → now ≡ over t lent → now ≡ over t now = λ t lent now e. e ∙ sym (ap (over t) e ∙ over_over t t lent refl) in
    record {
      shortlist = record {
        in_order = at.shortlist.in_order;
        filled_is = at.shortlist.filled_is;
        shown = record {
          picks_are = again t picks₀ _ at.shortlist.shown.picks_are;
          lows_are = again (map (total s q) t) lows₀ _ at.shortlist.shown.lows_are;
          highs_are = again (map (total s q) t) lows₀ _ at.shortlist.shown.lows_are;
        };
        picks_as_long = refl;
        lows_as_long = refl;
        highs_as_long = refl;
      };
      tally_is = again (tally s tr) tally₀ _ at.tally_is;
      tally_as_long = refl;
    }

-- Between two rows or rounds
pub record Between (which : ℕ) (r : Reading) (picks₀ lows₀ tally₀ : List ℕ) (l : Shortlist) (marks reach : List ℕ) (found p : ℕ) : Type 0 where
  pub not_last : p < r.set.poses
  pub tally_long : r.set.lists * r.set.poses ≤ length tally₀
  pub state : State (set_of r.set) (query_of r) (steps_by which (set_of r.set) p) picks₀ lows₀ tally₀ l marks
  pub reached : VisitedUpTo (set_of r.set) (steps_by which (set_of r.set) p) reach
  pub counted : found ≡ made (kind_by which) (steps_by which (set_of r.set) p)
  pub few : found ≤ p * r.set.lists
  pub not_yet : (x : ℕ) → 1 ≤ x → x ≤ p → stops (set_of r.set) l.count (search_by which (set_of r.set) (query_of r)) x ≡ false

pub between_starts : (which : ℕ) (a : Accepted) (l : Shortlist) (marks marks₀ reach : List ℕ) → l.filled ≡ 0
    → a.reading.set.lists * a.reading.set.poses ≤ length marks₀
    → marks ≡ replicate (a.reading.set.lists * a.reading.set.poses) 0 ++ drop (a.reading.set.lists * a.reading.set.poses) marks₀
    → length marks ≡ length marks₀ → ((i : ℕ) → get_or reach i 0 ≡ 0)
    → Between which a.reading l.picks.now l.lows.now marks l marks reach 0 0
between_starts which a l marks marks₀ reach empty room e long none =
    let s = set_of a.reading.set in
    record {
      not_last = a.readable.lists_valid.size.n_least;
      tally_long = omega (arith, room);
      state = rw (steps_none which s) (state_self (state_start s (query_of a.reading) l marks marks₀ empty e long));
      reached = λ i hi. omega (arith, none i);
      counted = rw (steps_none which s) (sym (made_none (kind_by which)));
      few = omega arith;
      not_yet = λ x h l. absurd (omega arith);
    }

-- One row or round later, before its test is made: where the slices stand, and the threshold's positions
pub record After (which : ℕ) (r : Reading) (picks₀ lows₀ tally₀ : List ℕ) (l : Shortlist) (marks reach : List ℕ) (found p : ℕ) : Type 0 where
  pub row_least : 1 ≤ p
  pub row_most : p ≤ r.set.poses
  pub tally_long : r.set.lists * r.set.poses ≤ length tally₀
  pub state : State (set_of r.set) (query_of r) (steps_by which (set_of r.set) p) picks₀ lows₀ tally₀ l marks
  pub place : (i : ℕ) → i < r.set.lists → get_or reach i 0 ≡ reach_by which (set_of r.set) p i
  pub counted : found ≡ made (kind_by which) (steps_by which (set_of r.set) p)
  pub few : found ≤ p * r.set.lists
  pub not_yet : (x : ℕ) → 1 ≤ x → x < p → stops (set_of r.set) l.count (search_by which (set_of r.set) (query_of r)) x ≡ false

-- the row or round ends the search, as the code tests it
abbrev pub is_last : Reading → ℕ → List ℕ → Shortlist → Bool
is_last r p at l =
    eqb p r.set.poses
    || (leb l.count l.filled
    && leb (limit_at (rule_number r.rule) r.weights.now r.set.lists r.set.poses at r.set.scores.now) (get_or l.lows.now (l.count - 1) 0))

module _ (a : Accepted) where
  abbrev s : Poses
  s = set_of a.reading.set

  abbrev q : Query
  q = query_of a.reading

  module _ {which : ℕ} {picks₀ lows₀ tally₀ : List ℕ} {l : Shortlist} {marks reach : List ℕ} {found p : ℕ}
      (b : Between which a.reading picks₀ lows₀ tally₀ l marks reach found p) where
    pub stepping_between : Stepping which p a.reading reach l marks
    stepping_between =
        record {
          standing = record { tally_long = omega (arith, b.tally_long, b.state.tally_as_long); state = state_self b.state };
          reached = b.reached;
          not_last = b.not_last;
        }

    module _ {l' : Shortlist} {marks' reach' : List ℕ} {more : ℕ} (step : Stepped which p a.reading l marks more reach' l' marks') where
      state_then : State s q (steps_by which s (p + 1)) picks₀ lows₀ tally₀ l' marks'
      state_then = step.goes.step picks₀ lows₀ tally₀ b.state

      pub advancing_then : Advancing s.m s.n reach' marks'
      advancing_then =
          record {
            m_most = a.readable.lists_valid.size.m_most;
            walkable = λ i hi. walkable_of state_then i hi (get_or reach' i 0) b.tally_long (step.reached i hi);
          }

      pub row_made : {at : List ℕ} → l'.count ≡ l.count → Positioned which (p + 1) s.m s.n marks' at
          → After which a.reading picks₀ lows₀ tally₀ l' marks' at (found + more) (p + 1)
      unfolding reach_by
      row_made same places =
          let size = suc-mul p s.m in
          let size' : (p + 1) * s.m ≡ p * s.m + s.m = ap (λ (x : ℕ). x * s.m) (add-one p) ∙ size in
          record {
            row_least = omega arith;
            row_most = omega (arith, b.not_last);
            tally_long = b.tally_long;
            state = state_then;
            place = λ i hi. places.place i hi ∙ ap (λ (x : ℕ). cond (eqb which 0) (p + 1) x) (walked_best state_then i hi);
            counted = omega (arith, b.counted, step.counted);
            few = omega (arith, b.few, step.few);
            not_yet = λ x h lt. rw same (b.not_yet x h (omega arith));
          }

  module _ {which : ℕ} {picks₀ lows₀ tally₀ : List ℕ} {l : Shortlist} {marks reach : List ℕ} {found p : ℕ}
      (now : After which a.reading picks₀ lows₀ tally₀ l marks reach found p) where
    pub limited_after : Limited s.m s.n reach a.reading.weights.now s.scores
    limited_after =
        let at = reached_at s a.readable.lists_valid which p reach now.row_least now.row_most now.place in
        record {
          m_most = a.readable.lists_valid.size.m_most;
          scores_long = a.readable.lists_valid.scores_long;
          at_least = λ i hi. (at i hi).1;
          at_most = λ i hi. (at i hi).2;
          small = small_of a;
        }

    -- the test that the code makes is the search's own
    test_is : is_last a.reading p reach l ≡ (eqb p s.n || stops s l.count (search_by which s q) p)
    test_is = ap (λ (x : Bool). eqb p s.n || x) (stops_told which p now.state _ (limit_is a.reading which p reach now.place))

    pub after_goes_on : is_last a.reading p reach l ≡ false → Between which a.reading picks₀ lows₀ tally₀ l marks reach found p
    after_goes_on fails =
        let both = or_no (eqb p s.n) (stops s l.count (search_by which s q) p) (sym test_is ∙ fails) in
        let other = eqb-false p s.n both.0 in
        let at = reached_at s a.readable.lists_valid which p reach now.row_least now.row_most now.place in
        record {
          not_last = omega (arith, now.row_most);
          tally_long = now.tally_long;
          state = now.state;
          reached = λ i hi. (at i hi).0;
          counted = now.counted;
          few = now.few;
          not_yet = λ x h most.
              ⊎_elim (λ (e : x ≡ p). rw e both.1) (λ (lt : x < p). now.not_yet x h lt) (eq-or-lt_of_le most);
        }

    pub run_ends : (marks₀ : List ℕ) {d : Found} → is_last a.reading p reach l ≡ true → Counted which p s.m found d → tally₀ ≡ over (replicate (s.m * s.n) 0) marks₀
        → RanBy which s q l.count picks₀ lows₀ marks₀ d l.picks.now l.lows.now marks
    unfolding tally
    run_ends marks₀ {d} ends counts cleared =
        let row = counts.rows_are in
        let v = a.readable.lists_valid in
        let three = counts_are s v which p found now.row_most now.counted in
        let first_row : p ≡ rows s l.count (search_by which s q) =
        row_is s l.count (search_by which s q) p now.row_least now.row_most now.not_yet (sym test_is ∙ ends) in
        let is_kept = kept_is which p now.state in
        let zeros : length (table (times (steps_by which s p)) s.n s.m) ≡ length (replicate {A = ℕ} (s.m * s.n) 0) =
        table_length (times (steps_by which s p)) s.n s.m ∙ sym (length-replicate (s.m * s.n) 0) in
        record {
          rows_are = row ∙ first_row;
          sorted_are = rw row (counts.sorted_are ∙ three.0);
          direct_are = rw row (counts.direct_are ∙ three.1);
          random_are = rw row (counts.random_are ∙ three.2);
          picks_are = rw (row, is_kept) now.state.shortlist.shown.picks_are;
          lows_are = rw (row, is_kept) now.state.shortlist.shown.lows_are;
          tally_is = rw row (now.state.tally_is ∙ ap (over (table (times (steps_by which s p)) s.n s.m)) cleared
              ∙ over_over (table (times (steps_by which s p)) s.n s.m) (replicate (s.m * s.n) 0) marks₀ zeros);
        }
