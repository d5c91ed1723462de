-- An item d that is read at row p of a list.
--     entry_small, entry_met     it is an item, which is met after p rows and after any more
--     entry_top          its mark before is not above the greatest
--     entry_room         where it has none, there is room for it among the items met
--     entry_read         what is kept once list i is read, at whose row it stands
-- Assumes nothing.
use Rattle.std.specs.Prelude.{◌≡◌, true, List, ℕ, ◌+◌, ◌≤◌, ◌<◌, length, get_or, set}
use Rattle.std.proofs.Common.{refl, arith}
use Rattle.meeting.specs.Clauses.{View}
use Rattle.halting.specs.Clauses.{met_of, mark_of}
use Rattle.halting.specs.Gathering.{listed_short}
use Rattle.raising.specs.Clauses.{Raised, NewlyGathered}
use Rattle.raising.specs.Floor.{mark_most_top}
use Rattle.leading.specs.Clauses.{item_at, ReadableRow, Partway}
use Rattle.leading.proofs.Rows.{row_met, mark_least, row_mark_most, begun_next}

module _ {v : View} {items : List ℕ} {p k : ℕ} (row : ReadableRow v items p k) {d : ℕ} where
  module _ {i : ℕ} (inside : i < v.m) (is : d ≡ item_at v items p i) where
    pub entry_small : d < v.n
    entry_small = rw is (row.rowed.item_small i inside)

    pub entry_met : (q : ℕ) → p ≤ q → met_of v q d ≡ true
    entry_met q later = rw is (row_met row.rowed i q inside later)

  module _ {i count : ℕ} {marks tops met : List ℕ} (part : Partway v items p i k marks tops met count) where
    pub entry_top : d < v.n → get_or marks d 0 ≤ get_or tops 0 0
    entry_top small = mark_most_top part.led row.k_least d small

    pub entry_room : d < v.n → get_or marks d 0 ≡ 0 → count < length met
    entry_room small none = omega (arith, listed_short part.gathered.listed d small none, part.gathered.met_long)

    module _ (inside : i < v.m) (is : d ≡ item_at v items p i) where
      pub entry_read : {new r : ℕ} {tops' met' : List ℕ} → new ≡ mark_of v p d → Raised k (get_or marks d 0) new tops tops'
          → NewlyGathered (item_at v items p i) (get_or marks d 0) count met r met'
          → Partway v items p (i + 1) k (set marks d new) tops' met' r
      entry_read {new} new_is raised gathered =
          let small = entry_small inside is in
          let rises : get_or marks d 0 ≤ new = rw (new_is, part.begun.marks_are d small) (row_mark_most v items p i d) in
          let some : 1 ≤ new = rw new_is (mark_least v p d (entry_met inside is p (omega arith))) in
          record {
            begun = rw (new_is, is) (begun_next i (rw is at small) part.begun);
            led = raised.raises v.n d marks part.begun.marks_long small refl rises part.led;
            gathered = rw is (gathered.gathers v.n new marks part.begun.marks_long (rw is at small) (rw is) some part.gathered);
          }
