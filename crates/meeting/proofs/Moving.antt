-- Entries moved one place on, from the last down to a seat, and a value put there: what the loops of `sliding` do.
--     moved                  the entries from j up to `last` stand one place on; entry j stands at its old place too
--     set_after              a store at the end of the first part
--     Moving                 what holds while entries are moved
--     moving_starts, moving_goes_on, moving_ends     none is moved; one more is; x is put at the seat
-- Assumes nothing.
use mathlib.Core.Path.{◌≡◌, refl, sym, ap, ◌∙◌}
use mathlib.Core.List.{List, ◌∷◌, ◌++◌, append_assoc}
use Prim.Native.Nat.{ℕ, suc, ◌+◌, ◌-◌, ◌≤◌, ◌<◌}
use native.Mathlib.Omega.{arith}
use lib.ListN.{length, get_or, set, take, drop, length-set, take-append-drop, get_or-append}
use lib.Seq.{take-suc, drop-cons, set_at, get_or-take, length-take-le}
use Rattle.meeting.specs.Clauses.{slid}

unfoldable pub moved : ℕ → ℕ → List ℕ → List ℕ
moved j last l = take (suc j) l ++ (take (last - j) (drop j l) ++ drop (suc last) l)

-- a store at the end of the first part
set_after : (l rest : List ℕ) (j x : ℕ) → j < length l → set (take (suc j) l ++ rest) j x ≡ take j l ++ x ∷ rest
set_after l rest j x h =
    rw (take-suc l j 0 h, append_assoc)
    (set_at (take j l) (get_or l j 0) rest x j (length-take-le j l (omega arith)))

moved_goes_on : (i last : ℕ) (l : List ℕ) → i < last → last < length l
    → set (moved (suc i) last l) (suc i) (get_or (moved (suc i) last l) i 0) ≡ moved i last l
unfolding moved
moved_goes_on i last l h inside =
    let rest = take (last - suc i) (drop (suc i) l) ++ drop (suc last) l in
    let entry : get_or (take (suc (suc i)) l ++ rest) i 0 ≡ get_or l i 0 =
    get_or-append (take (suc (suc i)) l) rest 0 i (omega (arith, length-take-le (suc (suc i)) l (omega arith)))
    ∙ get_or-take (suc (suc i)) l i 0 (omega arith) in
    let more : last - i ≡ suc (last - suc i) = omega arith in
    rw (entry, more, drop-cons l i 0 (omega arith)) (set_after l rest (suc i) (get_or l i 0) (omega arith))

-- While entries are moved, from `last` down to the seat: those from j on are
pub record Moving (l : List ℕ) (seat last : ℕ) (list : List ℕ) (j : ℕ) : Type 0 where
  pub above_seat : seat ≤ j
  pub below_last : j ≤ last
  pub last_within : last < length l
  pub as_long : length list ≡ length l
  pub is_moved : list ≡ moved j last l

pub moving_starts : (l : List ℕ) (seat last : ℕ) → seat ≤ last → last < length l → Moving l seat last l last
unfolding moved
moving_starts l seat last h inside =
    let none : last - last ≡ 0 = omega arith in
    record {
      above_seat = h;
      below_last = omega arith;
      last_within = inside;
      as_long = refl;
      is_moved = rw none (sym (take-append-drop (suc last) l));
    }

module _ {l list : List ℕ} {seat last j : ℕ} (w : Moving l seat last list j) where
  pub moving_goes_on : seat < j → Moving l seat last (set list (j - 1 + 1) (get_or list (j - 1) 0)) (j - 1)
  moving_goes_on h =
      let back : j ≡ suc (j - 1) = omega arith in
      let was : list ≡ moved (suc (j - 1)) last l = w.is_moved ∙ ap (λ (i : ℕ). moved i last l) back in
      let next : j - 1 + 1 ≡ suc (j - 1) = omega arith in
      record {
        above_seat = omega arith;
        below_last = omega (arith, w.below_last);
        last_within = w.last_within;
        as_long = length-set list (j - 1 + 1) (get_or list (j - 1) 0) ∙ w.as_long;
        is_moved = rw (next, was) (moved_goes_on (j - 1) last l (omega (arith, w.below_last)) w.last_within);
      }

  pub moving_ends : (x : ℕ) → j ≤ seat → set list seat x ≡ slid seat last x l
  unfolding moved slid
  moving_ends x h =
      let there : j ≡ seat = omega (arith, w.above_seat) in
      rw (w.is_moved, there)
      (set_after l (take (last - seat) (drop seat l) ++ drop (suc last) l) seat x (omega (arith, w.above_seat, w.below_last, w.last_within)))
