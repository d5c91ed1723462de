-- An item into a shortlist of at most k, whose slices stand over what was lent, at the seat that was found for it.
--     Seat               the items l in their order, and where item d belongs among them
--     seat_found         the seat that was found in the slices
--     seat_is            item d put in at that seat
--     in_order_then      the first k are in their order then
--     kept_out           a seat past the last of k places: nothing changes
--     size_then, items_then, numbers_then    else: how many there are; what the slide leaves of items, and of a number for each
--     listing_none           no item is kept yet
--     stays_out, slid_in     what an insertion promises: where the seat is past the last place, and where the item is slid in
-- Assumes nothing.
use Rattle.std.specs.Prelude.{◌≡◌, refl, true, false, List, [], ◌∷◌, ◌++◌, map, ℕ, ◌+◌, ◌-◌, ◌≤◌, ◌<◌, min, length, get_or, take, drop}
use Rattle.std.proofs.Common.{sym, ap, ◌∙◌, add-one, arith, take_all, take_at}
use Rattle.std.proofs.lemmas.List.{length-map}
use Rattle.model.specs.Words.{over}
use Rattle.model.specs.Searches.{ahead, insert, among}
use Rattle.laws.specs.Lists.{over_at, over_map_at, over_length}
use Rattle.laws.specs.Ahead.{ahead_ordering}
use Rattle.laws.specs.Ranking.{Sorted, sorted_take, insert_sorted, insert_at}
use Rattle.meeting.specs.Clauses.{ahead_of, Seated, slid}
use Rattle.meeting.specs.Shortlist.{Keeps, Listing, Inserted}
use Rattle.meeting.specs.Sliding.{slid_size, slid_inserts, slid_maps}

-- Item d, that is not among l, belongs at r: before each that follows, and not before the one in front
record Seat (f g : ℕ → ℕ) (l : List ℕ) (d k r : ℕ) : Type 0 where
  pub in_order : Sorted (ahead f g) l
  pub new : among d l ≡ false
  pub most : length l ≤ k
  pub within : r ≤ length l
  pub before_rest : (a : ℕ) → r ≤ a → a < length l → ahead f g d (get_or l a 0) ≡ true
  pub behind_front : 0 < r → ahead f g d (get_or l (r - 1) 0) ≡ false

-- the order, on items with their lows and highs
ahead_bounds : (f g : ℕ → ℕ) (d e : ℕ) → ahead f g d e ≡ ahead_of d (f d) (g d) e (f e) (g e)
unfolding ahead ahead_of
ahead_bounds f g d e = refl

module _ {f g : ℕ → ℕ} {l picks₀ lows₀ highs₀ picks lows highs : List ℕ} {filled d low high k r : ℕ}
    (at : Listing f g l picks₀ lows₀ highs₀ filled picks lows highs) (filled_most : filled ≤ k) (low_is : low ≡ f d) (high_is : high ≡ g d)
    (new : among d l ≡ false) (t : Seated d low high filled picks lows highs r) where
  ahead_at : (j : ℕ) → j < length l
      → ahead f g d (get_or l j 0) ≡ ahead_of d low high (get_or picks j 0) (get_or lows j 0) (get_or highs j 0)
  ahead_at j h =
      rw (
        low_is,
        high_is,
        at.shown.picks_are,
        at.shown.lows_are,
        at.shown.highs_are,
        over_at l picks₀ j 0 h,
        over_map_at f l lows₀ j h,
        over_map_at g l highs₀ j h,
      ) (ahead_bounds f g d (get_or l j 0))

  seat_found : Seat f g l d k r
  seat_found =
      let within : r ≤ length l = omega (arith, t.seat_most, at.filled_is) in
      record {
        in_order = at.in_order;
        new = new;
        most = omega (arith, at.filled_is);
        within = within;
        before_rest = λ a h lt. ahead_at a lt ∙ t.before_rest a h (omega (arith, at.filled_is));
        behind_front = λ pos. ahead_at (r - 1) (omega arith) ∙ t.behind_front (r - 1) (omega arith);
      }

module _ {f g : ℕ → ℕ} {l : List ℕ} {d k r : ℕ} (w : Seat f g l d k r) where
  seat_is : insert (ahead f g) d l ≡ take r l ++ d ∷ drop r l
  seat_is = insert_at (ahead f g) (ahead_ordering f g) d l r w.in_order w.within w.before_rest w.behind_front

  in_order_then : Sorted (ahead f g) (take k (insert (ahead f g) d l))
  in_order_then =
      sorted_take (ahead f g) k (insert (ahead f g) d l)
      (insert_sorted (ahead f g) (ahead_ordering f g) d l w.new w.in_order)

  kept_out : r ≡ k → take k (insert (ahead f g) d l) ≡ l
  kept_out e =
      let whole : take r l ≡ l = take_all r l (omega (arith, w.most)) in
      rw (seat_is, whole) (take_at l (d ∷ drop r l) k (omega (arith, w.most, w.within)))

  module _ {last : ℕ} (inside : r ≡ k → ⊥) (last_is : last ≡ min (length l) (k - 1)) where
    before_k : r < k
    before_k = omega (arith, w.within, w.most)

    size_then : last + 1 ≡ length (take k (insert (ahead f g) d l))
    size_then = rw (seat_is, add-one last) (sym (slid_size l l k r last d w.within before_k w.most last_is))

    items_then : (lent : List ℕ) {list list' : List ℕ} → list ≡ over l lent → list' ≡ slid r last d list
        → list' ≡ over (take k (insert (ahead f g) d l)) lent
    items_then lent is is' = is' ∙ rw (is, seat_is) (slid_inserts l lent k r last d w.within before_k w.most last_is)

    numbers_then : (h : ℕ → ℕ) (lent : List ℕ) {x : ℕ} {list list' : List ℕ} → x ≡ h d → list ≡ over (map h l) lent
        → list' ≡ slid r last x list
        → list' ≡ over (map h (take k (insert (ahead f g) d l))) lent
    numbers_then h lent x_is is is' =
        is' ∙ rw (is, x_is, seat_is) (slid_maps h l lent k r last d w.within before_k w.most last_is)

-- no item is kept yet
pub listing_none : (f g : ℕ → ℕ) (picks lows highs : List ℕ) → Listing f g [] picks lows highs 0 picks lows highs
unfolding over
listing_none f g picks lows highs =
    record {
      in_order = λ a b lt h. absurd (omega arith);
      filled_is = refl;
      shown = record { picks_are = refl; lows_are = refl; highs_are = refl };
      picks_as_long = refl;
      lows_as_long = refl;
      highs_as_long = refl;
    }

-- ---- the promise, in both cases
module _ {k filled d low high r : ℕ} {picks lows highs : List ℕ} (room : Keeps k filled picks lows highs)
    (t : Seated d low high filled picks lows highs r) where
  pub stays_out : r ≡ k → Inserted d low high k filled picks lows highs filled picks lows highs
  stays_out e =
      record {
        inserts = λ f g l picks₀ lows₀ highs₀ low_is high_is new at.
            rw (kept_out (seat_found at room.filled_most low_is high_is new t) e) at;
      }

  pub slid_in : {last : ℕ} {picks' lows' highs' : List ℕ} → (r ≡ k → ⊥) → last ≡ min filled (k - 1)
      → picks' ≡ slid r last d picks → lows' ≡ slid r last low lows → highs' ≡ slid r last high highs
      → Inserted d low high k filled picks lows highs (last + 1) picks' lows' highs'
  slid_in {last} {picks'} {lows'} {highs'} inside last_is picks_slid lows_slid highs_slid =
      record {
        inserts = λ f g l picks₀ lows₀ highs₀ low_is high_is new at.
            let seat = seat_found at room.filled_most low_is high_is new t in
            let last_place : last ≡ min (length l) (k - 1) = omega (arith, at.filled_is) in
            let then = take k (insert (ahead f g) d l) in
            let size : last + 1 ≡ length then = size_then seat inside last_place in
            let picks_then : picks' ≡ over then picks₀ = items_then seat inside last_place picks₀ at.shown.picks_are picks_slid in
            let lows_then : lows' ≡ over (map f then) lows₀ =
            numbers_then seat inside last_place f lows₀ low_is at.shown.lows_are lows_slid in
            let highs_then : highs' ≡ over (map g then) highs₀ =
            numbers_then seat inside last_place g highs₀ high_is at.shown.highs_are highs_slid in
            record {
              in_order = in_order_then seat;
              filled_is = size;
              shown = record { picks_are = picks_then; lows_are = lows_then; highs_are = highs_then };
              picks_as_long = ap length picks_then
                  ∙ over_length then picks₀ (omega (arith, room.room.k_least, room.room.picks_long, at.picks_as_long));
              lows_as_long = ap length lows_then
                  ∙ over_length (map f then) lows₀
                  (omega (arith, length-map then f, room.room.k_least, room.room.lows_long, at.lows_as_long));
              highs_as_long = ap length highs_then
                  ∙ over_length (map g then) highs₀
                  (omega (arith, length-map then g, room.room.k_least, room.room.highs_long, at.highs_as_long));
            };
      }
