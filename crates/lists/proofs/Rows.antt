-- List by list: what is known once i lists have passed, and one list more.
--     RowsNoted          after i lists: no refusal so far, and their rows of the work slice are noted
--     rows_start, rows_go_on         with no list; past one more
--     list_accepted      told as accepted, the list passes
--     rows_stop, rows_done       what `walk_lists` promises, from the refusal of a list and from all lists passed
-- Assumes nothing.
use mathlib.Core.Path.{◌≡◌, refl, sym, ap, ◌∙◌}
use mathlib.Core.List.{List, ◌++◌}
use Prim.Native.Nat.{ℕ, ◌+◌, ◌-◌, ◌*◌, ◌≤◌, ◌<◌}
use native.Mathlib.Numerals.{add-one}
use native.Mathlib.Omega.{arith}
use lib.ListN.{length, drop}
use lib.Seq.{drop-drop}
use borrow.Rule.Slice.PartMut.{put_mid, drop_put}
use Rattle.model.specs.Words.{row, table, over}
use Rattle.model.specs.Given.{Poses, place}
use Rattle.model.specs.Refusals.{accepted, refused, first_refusal, in_list, in_lists}
use Rattle.model.specs.Answers.{Told, told, places}
use Rattle.laws.specs.Lists.{row_length, table_length, table_room, over_beyond, over_more}
use Rattle.laws.specs.Verdicts.{accepted≢refused, first_refusal_at, numbered_list, told_zero}
use Rattle.std.specs.Prelude.{Ok, Err}
use Rattle.poses.specs.declared.refusals.Refusal.{Refusal}
use Rattle.poses.specs.Refusals.{told_of, refused_as}
use Rattle.lists.specs.Clauses.{ListsNoted}

drop_further : (x y : List ℕ) (e c : ℕ) → drop e x ≡ drop e y → e ≤ c → drop c x ≡ drop c y
drop_further x y e c same h =
    let sum : e + (c - e) ≡ c = omega arith in
    ap (λ (k : ℕ). drop k x) (sym sum) ∙ sym (drop-drop (c - e) e x) ∙ ap (drop (c - e)) same ∙ drop-drop (c - e) e y ∙ ap (λ (k : ℕ). drop k y) sum

module _ (s : Poses) (lent : List ℕ) where
  pub record RowsNoted (work : List ℕ) (i : ℕ) : Type 0 where
    pub within : i ≤ s.m
    pub none_refused : first_refusal (in_list s) i ≡ accepted
    pub rows_are : work ≡ over (table (λ j d. place s j d + 1) s.n i) lent

  pub rows_start : RowsNoted lent 0
  unfolding first_refusal table over
  rows_start = record { within = omega arith; none_refused = refl; rows_are = refl }

  module _ {work : List ℕ} {i : ℕ} (w : RowsNoted work i) where
    pub rows_go_on : (own : List ℕ) → i < s.m → in_list s i ≡ accepted → own ≡ row (λ d. place s i d + 1) s.n
        → RowsNoted (put_mid (i * s.n) (i * s.n + s.n - i * s.n) work own) (i + 1)
    unfolding first_refusal table
    rows_go_on own h passes e =
        let f : ℕ → ℕ → ℕ = λ j d. place s j d + 1 in
        let long : length own ≡ s.n = ap length e ∙ row_length (f i) s.n in
        record {
          within = omega arith;
          none_refused = rw (add-one i, w.none_refused, passes);
          rows_are = rw (w.rows_are, add-one i)
              (over_more (table f s.n i) own lent (i * s.n) (i * s.n + s.n) (table_length f s.n i) (ap (λ (k : ℕ). i * s.n + k) long)
              ∙ ap (λ (l : List ℕ). over (table f s.n i ++ l) lent) e);
        }

    -- the refusal of list i is the answer; what its row was left at lies within the first m x n entries
    pub rows_stop : (own : List ℕ) (e : Refusal) → i < s.m → told_of e ≡ told (in_list s i)
        → length own ≡ s.n → s.m * s.n ≤ length work
        → ListsNoted s lent (Err e) (put_mid (i * s.n) (i * s.n + s.n - i * s.n) work own)
    unfolding in_lists
    rows_stop own e h says long room =
        let reach = table_room i s.m s.n h in
        let size = table_length (λ j d. place s j d + 1) s.n i in
        let beyond : drop (s.m * s.n) (put_mid (i * s.n) (i * s.n + s.n - i * s.n) work own) ≡ drop (s.m * s.n) lent =
        drop_further (put_mid (i * s.n) (i * s.n + s.n - i * s.n) work own) work (i * s.n + s.n) (s.m * s.n)
        (drop_put (i * s.n) (i * s.n + s.n) work own (omega arith) (omega arith) (omega arith)) reach
        ∙ rw w.rows_are (over_beyond (table (λ j d. place s j d + 1) s.n i) lent (s.m * s.n) (omega arith)) in
        let stops = refused_as e (in_list s i) says in
        let all : in_lists s ≡ refused (told_of e).number (told_of e).list (told_of e).position =
        first_refusal_at (in_list s) s.m i w.none_refused stops h in
        record {
          answers = ap told (sym all);
          notes = λ passes. absurd (accepted≢refused (sym passes ∙ all));
          beyond = beyond;
        }

  pub list_accepted : (i : ℕ) → told accepted ≡ told (in_list s i) → in_list s i ≡ accepted
  list_accepted i says = told_zero (in_list s i) (numbered_list s i) (sym (ap (λ (t : Told). t.number) says))

  pub rows_done : {work : List ℕ} → RowsNoted work s.m → ListsNoted s lent (Ok tt) work
  unfolding in_lists places
  rows_done w =
      record {
        answers = ap told (sym w.none_refused);
        notes = λ _. w.rows_are;
        beyond = rw w.rows_are
            (over_beyond (table (λ j d. place s j d + 1) s.n s.m) lent (s.m * s.n)
            (omega (arith, table_length (λ j d. place s j d + 1) s.n s.m)));
      }
