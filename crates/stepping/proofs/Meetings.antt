-- An item is met: its score, the tally and the ranking afterwards.
--     score_is               what `bound` gives at depth n is the item's overall score
--     tally_after            one visit in every list is one lookup
--     met_told               list 1's tally tells whether the item was met
--     meets_again, meets_new     the state after a lookup of an item that was met before, and of a new one
--     met_again, met_first       the same, wherever the item was found
-- Assumes nothing.
use mathlib.Core.Path.{◌≡◌, refl, sym, ap, ◌∙◌}
use mathlib.Core.Bool.{true, false, ◌&&◌, ◌||◌, or-false, or-true, true≢false}
use mathlib.Core.List.{List, ◌++◌}
use Prim.Native.Nat.{ℕ, ◌+◌, ◌-◌, ◌*◌, ◌<◌}
use native.Mathlib.Nat.{zero-mul, zero-add, pos_of_ne-zero}
use native.Mathlib.Omega.{arith}
use lib.Dec.{eqb, leb, ltb}
use lib.ListN.{length, get_or, take}
use borrow.Author.Tests.{eqb-true, le-leb, lt-leb, lt-ltb}
use Rattle.model.specs.Words.{table, over}
use Rattle.model.specs.Given.{Poses, Query, item, score, place, joined, overall, total}
use Rattle.model.specs.Accesses.{Kind, Access, lookup, times, met, tally}
use Rattle.model.specs.Searches.{ahead, insert, among}
use Rattle.laws.specs.Tests.{by_cases}
use Rattle.laws.specs.Lists.{table_length, table_same, over_over}
use Rattle.laws.specs.Accepted.{Valid, Placed}
use Rattle.laws.specs.Lookups.{once, times_append, lookup_times}
use Rattle.laws.specs.Meetings.{Whole, met_is, met_more}
use Rattle.laws.specs.Ahead.{ahead_ordering}
use Rattle.laws.specs.Ranking.{among_at, ranked_same, ranked_more, ranked_among, take_insert}
use Rattle.laws.specs.Kept.{take_among}
use Rattle.laws.specs.Overall.{joined_same}
use Rattle.meeting.specs.Clauses.{query_of, view_of, bound_of, read_at, unread}
use Rattle.meeting.specs.Shortlist.{Listing, Inserted}
use Rattle.meeting.specs.declared.Reading.{Reading}
use Rattle.noting.specs.Clauses.{visited_in, visited_once}
use Rattle.noting.specs.declared.shortlist.Shortlist.{Shortlist}
use Rattle.stepping.specs.State.{ranking, State, set_with, Met}
use Rattle.stepping.specs.Steps.{mark_at}

module _ (s : Poses) (q : Query) (work : List ℕ) (v : Valid s) (w : Placed s work) where
  -- the work slice's position is the place, from one
  place_back : (i d : ℕ) → i < s.m → d < s.n → get_or work (i * s.n + d) 0 - 1 ≡ place s i d
  place_back i d hi hd = omega (arith, w.position_at i d hi hd)

  pub score_is : (d : ℕ) → d < s.n
      → joined q.rule (λ i. read_at s.n s.scores work d s.n (unread false s.n s.scores s.n) i * q.weight i) s.m ≡ total s q d
  unfolding total overall read_at score
  score_is d hd =
      joined_same q.rule (λ i. read_at s.n s.scores work d s.n (unread false s.n s.scores s.n) i * q.weight i)
      (λ i. score s i (place s i d) * q.weight i) s.m
      (λ i hi.
      let at = w.position_at i d hi hd in
      let inside = v.has_place i d hi hd in
      let index : i * s.n + (place s i d + 1) - 1 ≡ i * s.n + place s i d = omega arith in
      rw (at, le-leb (place s i d + 1) s.n (omega arith), index))

  module _ (tr : List Access) (tally₀ : List ℕ) {marks : List ℕ} (is : marks ≡ over (tally s tr) tally₀) where
    pub tally_after : (a : Kind) (i p d : ℕ) → i < s.m → p < s.n → item s i p ≡ d → d < s.n
        → visited_once d s.m s.n work marks ≡ over (tally s (tr ++ lookup s a i p)) tally₀
    unfolding visited_once visited_in tally
    tally_after a i p d hi hp found hd =
        let g : ℕ → ℕ → ℕ = λ j x. get_or marks (j * s.n + x) 0 + once (ltb j s.m && eqb (get_or work (j * s.n + d) 0 - 1) x) in
        let same : table g s.n s.m ≡ table (times (tr ++ lookup s a i p)) s.n s.m =
        table_same g (times (tr ++ lookup s a i p)) s.n s.m
        (λ j x hj hx.
        rw (
          mark_at s tr tally₀ is j x hj hx,
          lt-ltb j s.m hj,
          place_back j d hj hd,
          times_append tr (lookup s a i p) j x,
          lookup_times s v a i p j
              x hi hp hj,
          found,
        )) in
        let long : length (table g s.n s.m) ≡ length (table (times tr) s.n s.m) =
        table_length g s.n s.m ∙ sym (table_length (times tr) s.n s.m) in
        ap (over (table g s.n s.m)) is ∙ over_over (table g s.n s.m) (table (times tr) s.n s.m) tally₀ long
        ∙ ap (λ (t : List ℕ). over t tally₀) same

    pub met_told : Whole s tr → (d : ℕ) → d < s.n → met s tr d ≡ leb 1 (get_or marks (get_or work d 0 - 1) 0)
    met_told whole d hd =
        let one = v.size.m_least in
        let index : 0 * s.n + d ≡ d = rw zero-mul (zero-add d) in
        let at : get_or work d 0 - 1 ≡ place s 0 d = ap (λ (x : ℕ). get_or work x 0 - 1) (sym index) ∙ place_back 0 d one hd in
        let mark : get_or marks (place s 0 d) 0 ≡ times tr 0 (place s 0 d) =
        ap (λ (x : ℕ). get_or marks x 0) (sym (rw zero-mul (zero-add (place s 0 d))))
        ∙ mark_at s tr tally₀ is 0 (place s 0 d) one (v.has_place 0 d one hd) in
        met_is s v whole d hd ∙ rw (at, mark)

  module _ {tr : List Access} (whole : Whole s tr) (a : Kind) (i p d : ℕ) (hi : i < s.m) (hp : p < s.n) (found : item s i p ≡ d) (hd : d < s.n)
    where
      met_then : (e : ℕ) → e < s.n → met s (tr ++ lookup s a i p) e ≡ (met s tr e || eqb e d)
      met_then e he = rw (← found) (met_more s v whole a i p e hi hp he)

      ranking_old : met s tr d ≡ true → ranking s q (tr ++ lookup s a i p) ≡ ranking s q tr
      unfolding ranking
      ranking_old old =
          ranked_same (ahead (total s q) (total s q)) (ahead (total s q) (total s q)) (met s (tr ++ lookup s a i p)) (met s tr) s.n
          (λ e he.
          met_then e he
          ∙ by_cases (eqb e d)
          (λ (y : eqb e d ≡ true). let x : e ≡ d = eqb-true e d y in rw (y, or-true, x, old))
          (λ (z : eqb e d ≡ false). rw (z, or-false)))
          (λ x y _ _ _ _. refl)

      ranking_new : met s tr d ≡ false
          → ranking s q (tr ++ lookup s a i p) ≡ insert (ahead (total s q) (total s q)) d (ranking s q tr)
      unfolding ranking
      ranking_new new =
          ranked_more (ahead (total s q) (total s q)) (ahead_ordering (total s q) (total s q)) (met s tr) (met s (tr ++ lookup s a i p)) s.n d hd
          new
          met_then

      -- an item that was not met is not among the first k
      pub not_kept : (k : ℕ) → met s tr d ≡ false → among d (take k (ranking s q tr)) ≡ false
      unfolding ranking
      not_kept k new =
          by_cases (among d (take k (ranking s q tr)))
          (λ (y : among d (take k (ranking s q tr)) ≡ true).
          let r = take_among d k (ranking s q tr) y in
          let in_it : among d (ranking s q tr) ≡ true = rw r.3 at (among_at (ranking s q tr) r.0 r.2) in
          absurd (true≢false (sym in_it ∙ ranked_among (ahead (total s q) (total s q)) (met s tr) d s.n ∙ rw (lt-ltb d s.n hd, new))))
          (λ z. z)

      module _ {picks₀ lows₀ tally₀ marks marks' : List ℕ} {l : Shortlist} (at : State s q tr picks₀ lows₀ tally₀ l marks)
          (visits : marks' ≡ visited_once d s.m s.n work marks) (long : length marks' ≡ length marks) where
        pub meets_again : met s tr d ≡ true → State s q (tr ++ lookup s a i p) picks₀ lows₀ tally₀ l marks'
        meets_again old =
            record {
              shortlist = rw (ranking_old old) at.shortlist;
              tally_is = visits ∙ tally_after tr tally₀ at.tally_is a i p d hi hp found hd;
              tally_as_long = long ∙ at.tally_as_long;
            }

        pub meets_new : {l' : Shortlist} → l'.count ≡ l.count → met s tr d ≡ false
            → Listing (total s q) (total s q) (take l.count (insert (ahead (total s q) (total s q)) d (take l.count (ranking s q tr)))) picks₀
            lows₀ lows₀ l'.filled l'.picks.now l'.lows.now l'.lows.now
            → State s q (tr ++ lookup s a i p) picks₀ lows₀ tally₀ l' marks'
        meets_new same new inserted =
            record {
              shortlist = rw (same, ranking_new new, take_insert (ahead (total s q) (total s q)) l.count d (ranking s q tr)) inserted;
              tally_is = visits ∙ tally_after tr tally₀ at.tally_is a i p d hi hp found hd;
              tally_as_long = long ∙ at.tally_as_long;
            }

module _ {r : Reading} {l : Shortlist} {marks marks' : List ℕ} (d : ℕ) (small : d < r.set.poses)
    (visits : marks' ≡ visited_once d r.set.lists r.set.poses r.places.now marks) (long : length marks' ≡ length marks) where
  pub met_again : (get_or marks (get_or r.places.now d 0 - 1) 0 ≡ 0 → ⊥) → Met d r l marks l marks'
  met_again some =
      record {
        looks_up = λ items tr a i p v w whole hi hp found.
            record {
              step = λ picks₀ lows₀ tally₀ at.
                  let s = set_with r items in
                  let old =
                  met_told s (query_of r) r.places.now v w tr tally₀ at.tally_is whole d small
                  ∙ le-leb 1 (get_or marks (get_or r.places.now d 0 - 1) 0) (pos_of_ne-zero some) in
                  meets_again s (query_of r) r.places.now v w whole a i p d hi hp found small at visits long old;
            };
      }

  pub met_first : {l' : Shortlist} (x : ℕ) → l'.count ≡ l.count → get_or marks (get_or r.places.now d 0 - 1) 0 ≡ 0
      → x ≡ bound_of (view_of r) false r.set.poses d
      → Inserted d x x l.count l.filled l.picks.now l.lows.now l.lows.now l'.filled l'.picks.now l'.lows.now l'.lows.now
      → Met d r l marks l' marks'
  unfolding bound_of
  met_first x same none is inserted =
      record {
        looks_up = λ items tr a i p v w whole hi hp found.
            record {
              step = λ picks₀ lows₀ tally₀ at.
                  let s = set_with r items in
                  let q = query_of r in
                  let fresh =
                  met_told s q r.places.now v w tr tally₀ at.tally_is whole d small
                  ∙ lt-leb 1 (get_or marks (get_or r.places.now d 0 - 1) 0) (omega (arith, none)) in
                  let score : x ≡ total s q d = is ∙ score_is s q r.places.now v w d small in
                  meets_new s q r.places.now v w whole a i p d hi hp found small at visits long same fresh
                  (inserted.inserts (total s q) (total s q) (take l.count (ranking s q tr)) picks₀ lows₀ lows₀ score score
                  (not_kept s q r.places.now v w whole a i p d hi hp found small l.count fresh) at.shortlist);
            };
      }
