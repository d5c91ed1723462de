-- Steps from one state to the next, and what meeting an item asks in such a state.
--     goes_none, goes_on, goes_to        no step; one step and another; a step whose accesses are named otherwise
--     state_now                          where a step leads from a state that stands over the slices themselves
--     mark_at                            what the tally slice holds at a position
--     located_of, small_of, visitable_of, meeting_of      what meeting an item asks, from what is known
--     keeps_now                          the shortlist has room and is filled as far as it says, in every state
--     row_count                          in the middle of a row no item's places were visited more than m times
-- Assumes nothing.
use Rattle.std.specs.Prelude.{◌≡◌, List, ◌++◌, ℕ, suc, ◌+◌, ◌-◌, ◌*◌, ◌≤◌, ◌<◌, length, get_or}
use Rattle.std.proofs.Common.{◌∙◌, arith}
use Rattle.model.specs.Words.{table, over}
use Rattle.model.specs.Given.{Poses, Query, place}
use Rattle.model.specs.Accesses.{Access, row_ta, rows_ta, times, tally}
use Rattle.laws.specs.Lists.{table_length, table_room, table_at, over_at}
use Rattle.laws.specs.Accepted.{Valid}
use Rattle.laws.specs.Lookups.{times_append}
use Rattle.laws.specs.Rows.{rows_most, row_within}
use Rattle.poses.specs.Sets.{set_of}
use Rattle.meeting.specs.Clauses.{query_of, Located, Small}
use Rattle.meeting.specs.declared.Reading.{Reading}
use Rattle.meeting.specs.declared.Accepted.{Accepted}
use Rattle.meeting.specs.Shortlist.{Keeps}
use Rattle.noting.specs.Clauses.{Visitable}
use Rattle.noting.specs.declared.shortlist.Shortlist.{Shortlist}
use Rattle.stepping.specs.State.{State, Goes, Meeting, Standing}

module _ {s : Poses} {q : Query} where
  pub goes_none : (tr : List Access) {l : Shortlist} {marks : List ℕ} → Goes s q tr tr l marks l marks
  goes_none tr = record { step = λ picks₀ lows₀ tally₀ at. at }

  pub goes_on : {tr tr' tr'' : List Access} {l l' l'' : Shortlist} {a b c : List ℕ} → Goes s q tr tr' l a l' b → Goes s q tr' tr'' l' b l'' c
      → Goes s q tr tr'' l a l'' c
  goes_on g h = record { step = λ picks₀ lows₀ tally₀ at. h.step picks₀ lows₀ tally₀ (g.step picks₀ lows₀ tally₀ at) }

  pub goes_to : {tr tr' tr'' : List Access} {l l' : Shortlist} {a b : List ℕ} → tr' ≡ tr'' → Goes s q tr tr' l a l' b
      → Goes s q tr tr'' l a l' b
  goes_to e g = rw e at g

pub state_now : {r : Reading} {tr tr' : List Access} {l l' : Shortlist} {a b : List ℕ} → Standing r tr l a
    → Goes (set_of r.set) (query_of r) tr tr' l a l' b → State (set_of r.set) (query_of r) tr' l.picks.now l.lows.now a l' b
state_now {l = l} {a = a} standing g = g.step l.picks.now l.lows.now a standing.state

pub keeps_now : {s : Poses} {q : Query} {filled₀ : ℕ} {tr : List Access} {picks₀ lows₀ tally₀ marks : List ℕ} {l : Shortlist}
    → Keeps l.count filled₀ picks₀ lows₀ lows₀ → State s q tr picks₀ lows₀ tally₀ l marks
    → Keeps l.count l.filled l.picks.now l.lows.now l.lows.now
keeps_now {l = l} keeps at = l.keeps

-- what the tally slice holds at a position
pub mark_at : (s : Poses) (tr : List Access) (tally₀ : List ℕ) {marks : List ℕ} → marks ≡ over (tally s tr) tally₀
    → (i p : ℕ) → i < s.m → p < s.n → get_or marks (i * s.n + p) 0 ≡ times tr i p
unfolding tally
mark_at s tr tally₀ is i p hi hp =
    rw is
    (over_at (table (times tr) s.n s.m) tally₀ (i * s.n + p) 0
    (omega (arith, table_length (times tr) s.n s.m, table_room i s.m s.n hi))
    ∙ table_at (times tr) s.n s.m i p 0 hi hp)

module _ (a : Accepted) where
  abbrev s : Poses
  s = set_of a.reading.set

  pub located_of : (d : ℕ) → d < s.n → Located s.m s.n d s.n s.scores a.reading.places.now
  located_of d hd =
      let v = a.readable.lists_valid in
      let w = a.readable.work_placed in
      record {
        m_most = v.size.m_most;
        n_most = v.size.n_most;
        item_small = hd;
        depth_least = v.size.n_least;
        depth_most = omega arith;
        scores_long = v.scores_long;
        work_long = w.places_long;
        place_least = λ i hi. omega (arith, w.position_at i d hi hd);
        place_most = λ i hi. omega (arith, w.position_at i d hi hd, v.has_place i d hi hd);
      }

  pub small_of : Small a.reading.weights.now s.scores
  small_of = record { weights_small = a.readable.weights_small; scores_small = a.readable.scores_small }

  module _ {q : Query} {tr : List Access} {picks₀ lows₀ tally₀ marks : List ℕ} {l : Shortlist}
      (at : State s q tr picks₀ lows₀ tally₀ l marks) (long : s.m * s.n ≤ length tally₀) (d : ℕ) (hd : d < s.n)
      (few : (i : ℕ) → i < s.m → times tr i (place s i d) ≤ 8) where
    pub visitable_of : Visitable d s.m s.n marks a.reading.places.now
    visitable_of =
        let v = a.readable.lists_valid in
        let w = a.readable.work_placed in
        let places = located_of d hd in
        record {
          item_small = hd;
          tally_long = omega (arith, at.tally_as_long);
          work_long = w.places_long;
          place_least = places.place_least;
          place_most = places.place_most;
          count_small = λ i hi.
              let back : get_or a.reading.places.now (i * s.n + d) 0 - 1 ≡ place s i d = omega (arith, w.position_at i d hi hd) in
              rw (back, mark_at s tr tally₀ at.tally_is i (place s i d) hi (v.has_place i d hi hd)) (few i hi);
        }

    pub meeting_of : Meeting d a.reading marks
    meeting_of =
        record {
          m_least = a.readable.lists_valid.size.m_least;
          located = located_of d hd;
          small = small_of;
          visitable = visitable_of;
        }

-- in the middle of a row: no item's places were visited more than m times
pub row_count : (s : Poses) → Valid s → (p i j d : ℕ) → p < s.n → i ≤ s.m → j < s.m → d < s.n
    → times (rows_ta s p ++ row_ta s p i) j (place s j d) ≤ 8
unfolding rows_ta
row_count s v p i j d hp hi hj hd =
    let place_in = v.has_place j d hj hd in
    let all : times (rows_ta s p ++ row_ta s p s.m) j (place s j d) ≤ s.m = rows_most s v (suc p) j (place s j d) (omega arith) hj place_in in
    omega (
      arith,
      times_append (rows_ta s p) (row_ta s p i) j (place s j d),
      times_append (rows_ta s p) (row_ta s p s.m) j (place s j d),
      row_within s v p i
          s.m j (place s j d) hi,
      v.size.m_most,
    )
