-- BPA2's turn at a list, and a round as the turns at its lists.
--     next_over, next_look       a turn at a list that is read to its end; at any other
--     made_next                  how many direct accesses a turn makes
--     best_grows                 no turn makes a best position smaller
--     RoundPart, part_none, part_more        after the turns at the first i lists of a round; with none; with one more
--     part_turns, part_whole, part_count     what the accesses are then; the next item of a list was never looked up
-- Assumes nothing.
use mathlib.Core.Path.{◌≡◌, refl}
use mathlib.Core.Bool.{true, false}
use mathlib.Core.List.{List, ◌++◌}
use Prim.Native.Nat.{ℕ, ◌+◌, ◌≤◌, ◌<◌}
use native.Mathlib.Numerals.{add-one}
use native.Mathlib.Omega.{arith}
use lib.Dec.{eqb, ltb}
use lib.ListN.{length, set}
use lib.Seq.{get_or-set_same, get_or-set_other}
use borrow.Author.Tests.{eqb-true, eqb-false, eq-eqb, ne_eqb, lt-ltb, le-ltb}
use Rattle.model.specs.Given.{Poses, item, place}
use Rattle.model.specs.Accesses.{direct, Access, lookup, next, round, rounds, times, visited, best, made}
use Rattle.laws.specs.Tests.{by_cases}
use Rattle.laws.specs.Accepted.{Valid}
use Rattle.laws.specs.Meetings.{Whole}
use Rattle.laws.specs.Looked.{looked_whole}
use Rattle.laws.specs.Lookups.{once, made_append, lookup_made_own}
use Rattle.laws.specs.Visits.{best_free, best_wider}
use Rattle.laws.specs.Rounds.{Turns, by_turn, visited_next, round_turns, rounds_turns, unvisited_item}
use Rattle.poses.specs.Sets.{set_of}
use Rattle.meeting.specs.Clauses.{query_of}
use Rattle.meeting.specs.declared.Reading.{Reading}
use Rattle.noting.specs.declared.shortlist.Shortlist.{Shortlist}
use Rattle.stepping.specs.State.{Goes, VisitedUpTo}
use Rattle.stepping.specs.Steps.{goes_none, goes_on}

module _ (s : Poses) (tr : List Access) (i : ℕ) where
  pub next_over : best s tr i ≡ s.n → next s tr i ≡ tr
  unfolding next
  next_over e = rw (eq-eqb (best s tr i) s.n e)

  pub next_look : (best s tr i ≡ s.n → ⊥) → next s tr i ≡ tr ++ lookup s direct i (best s tr i)
  unfolding next
  next_look h = rw (ne_eqb (best s tr i) s.n h)

  pub made_next : made direct (next s tr i) ≡ made direct tr + once (ltb (best s tr i) s.n)
  made_next =
      by_turn (λ more. made direct more ≡ made direct tr + once (ltb (best s tr i) s.n)) s tr i
      (λ e. rw (le-ltb (best s tr i) s.n (omega arith)) (omega arith))
      (λ h.
      rw (made_append direct tr (lookup s direct i (best s tr i)), lookup_made_own s direct i (best s tr i) refl refl, lt-ltb (best s tr i) s.n h))

  pub best_grows : (j : ℕ) → best s tr j ≤ best s (next s tr i) j
  best_grows j = best_wider s tr (next s tr i) j (λ q hq y. visited_next s tr i j q y)

-- After the turns at the first i lists of a round: where the slices stand, how far each list was visited, the direct accesses made
pub record RoundPart (r : Reading) (x i : ℕ) (l₀ : Shortlist) (marks₀ : List ℕ) (l : Shortlist) (marks reach : List ℕ) (found : ℕ) : Type 0 where
  pub goes : Goes (set_of r.set) (query_of r) (rounds (set_of r.set) x) (round (set_of r.set) (rounds (set_of r.set) x) i) l₀ marks₀ l marks
  pub reached : VisitedUpTo (set_of r.set) (round (set_of r.set) (rounds (set_of r.set) x) i) reach
  pub counted : made direct (round (set_of r.set) (rounds (set_of r.set) x) i) ≡ made direct (rounds (set_of r.set) x) + found

pub part_none : {r : Reading} {x : ℕ} {l : Shortlist} {marks reach : List ℕ}
    → VisitedUpTo (set_of r.set) (rounds (set_of r.set) x) reach → RoundPart r x 0 l marks l marks reach 0
unfolding round
part_none {r} {x} reached = record { goes = goes_none (rounds (set_of r.set) x); reached = reached; counted = omega arith }

-- in the middle of a round the accesses are whole lookups, each of another item
pub part_turns : (s : Poses) (v : Valid s) (r i : ℕ) → i ≤ s.m → Turns s v (round s (rounds s r) i)
part_turns s v r i hi = round_turns s v (rounds s r) i hi (rounds_turns s v r)

pub part_whole : (s : Poses) → Valid s → (r i : ℕ) → i ≤ s.m → Whole s (round s (rounds s r) i)
part_whole s v r i hi = looked_whole s v (part_turns s v r i hi).looked

-- an item at a list's next position was never looked up
pub part_count : (s : Poses) → Valid s → (r i b j : ℕ) → i < s.m → b ≡ best s (round s (rounds s r) i) i → b < s.n
    → j < s.m → times (round s (rounds s r) i) j (place s j (item s i b)) ≤ 8
part_count s v r i b j hi e hb hj =
    let tr = round s (rounds s r) i in
    let whole = part_whole s v r i (omega arith) in
    let small = v.is_item i b hi hb in
    let free : visited tr i b ≡ false = rw e (best_free s tr i (omega arith)) in
    let none = unvisited_item s v tr i b hi hb whole free in
    omega (arith, whole.alike j (item s i b) hj small)

module _ {r : Reading} {x i : ℕ} {l₀ l : Shortlist} {marks₀ marks reach : List ℕ} {found : ℕ}
    (p : RoundPart r x i l₀ marks₀ l marks reach found) where
  abbrev s : Poses
  s = set_of r.set

  abbrev tr : List Access
  tr = round s (rounds s x) i

  pub part_more : (b : ℕ) {l' : Shortlist} {marks' : List ℕ} → i < s.m → i < length reach → b ≡ best s tr i
      → Goes s (query_of r) tr (next s tr i) l marks l' marks'
      → RoundPart r x (i + 1) l₀ marks₀ l' marks' (set reach i b) (found + once (ltb b s.n))
  unfolding round
  part_more b hi inside e turn =
      rw (add-one i)
      (record {
        goes = goes_on p.goes turn;
        reached = λ j hj.
            by_cases (eqb j i)
            (λ (y : eqb j i ≡ true).
            let x : j ≡ i = eqb-true j i y in
            rw (x, get_or-set_same reach i b 0 inside) (omega (arith, best_grows s tr i i)))
            (λ (z : eqb j i ≡ false).
            rw (get_or-set_other reach i j b 0 (eqb-false j i z)) (omega (arith, p.reached j hj, best_grows s tr i j)));
        counted = rw e (omega (arith, p.counted, made_next s tr i));
      })
