-- One list, position by position: what is known once p positions have passed, what each refusal then means, and one step more.
--     score_before        the score before position p; before the first, the largest number of its type
--     Walked             after p positions: the notes, no refusal so far, the score before
--     walk_starts, walk_goes_on                  at the first position; past one more
--     refused_7, refused_8, refused_9            the refusal that is met at position p
--     starts, unknown, twice, rises_here, goes_on, passes        the same as `walk_list` has them, of an item and a score that it
--                                                                read, and what is promised on each way out
-- Assumes nothing.
use mathlib.Core.Path.{◌≡◌, refl, sym, ap, ◌∙◌}
use mathlib.Core.Bool.{true, false}
use mathlib.Core.List.{List}
use Prim.Native.Nat.{ℕ, zero, suc, ◌+◌, ◌*◌, ◌≤◌, ◌<◌}
use native.Mathlib.Numerals.{add-one, sub-one}
use native.Mathlib.Omega.{arith}
use lib.Dec.{ltb, eqb}
use lib.ListN.{get_or, set as set_at, replicate}
use borrow.Author.Tests.{le-leb, lt-leb, lt-ltb, le-ltb, eq-eqb, ne_eqb, not-false, not-true}
use Rattle.model.specs.Words.{row}
use Rattle.model.specs.Given.{Poses, item, score}
use Rattle.model.specs.Refusals.{accepted, refused, not_item, stood_earlier, rises, standing, fault, first_refusal, in_list}
use Rattle.model.specs.Answers.{told}
use Rattle.laws.specs.Lists.{row_at, row_zeros}
use Rattle.laws.specs.Verdicts.{first_refusal_at}
use Rattle.laws.specs.Marks.{noted, noted_store, noted_free}
use Rattle.std.specs.Prelude.{Ok, Err}
use Rattle.poses.specs.declared.refusals.Spot.{Spot}
use Rattle.poses.specs.declared.refusals.Refusal.TheVariants.{UnknownItem, ItemTwice, ScoreRises}
use Rattle.entries.specs.Clauses.{poses, ListNoted}
use Rattle.entries.proofs.Noted.{list_refused, list_passed}

-- the score before position p of scores g; no score is above 4,294,967,295, so the first position never rises
unfoldable pub score_before : (ℕ → ℕ) → ℕ → ℕ
score_before g zero = 4294967295
score_before g (suc p) = g p

module _ (s : Poses) (i : ℕ) where
  pub record Walked (notes : List ℕ) (before p : ℕ) : Type 0 where
    pub within : p ≤ s.n
    pub notes_are : notes ≡ row (noted (item s i) p) s.n
    pub none_refused : first_refusal (fault s i) p ≡ accepted
    pub before_is : before ≡ score_before (score s i) p

  walk_starts : Walked (replicate s.n 0) 4294967295 0
  unfolding score_before first_refusal noted
  walk_starts = record { within = omega arith; notes_are = sym (row_zeros s.n); none_refused = refl; before_is = refl }

  rises_is : (p : ℕ) → score s i p ≤ 4294967295 → rises s i p ≡ ltb (score_before (score s i) p) (score s i p)
  unfolding rises score_before
  rises_is zero h = sym (le-ltb 4294967295 (score s i 0) h)
  rises_is (suc p) h = rw (lt-ltb 0 (suc p) (omega arith), sub-one (suc p))

  module _ {notes : List ℕ} {before p : ℕ} (w : Walked notes before p) (inside : p < s.n) where
    refused_at : {x : ℕ} → fault s i p ≡ refused x (i + 1) (p + 1) → in_list s i ≡ refused x (i + 1) (p + 1)
    unfolding in_list
    refused_at e = first_refusal_at (fault s i) s.n p w.none_refused e inside

    refused_7 : s.n ≤ item s i p → in_list s i ≡ refused 7 (i + 1) (p + 1)
    unfolding fault not_item standing
    refused_7 h = refused_at (rw (le-leb s.n (item s i p) h))

    module _ (below : item s i p < s.n) where
      -- the note that stands at the item
      note_at : get_or notes (item s i p) 0 ≡ noted (item s i) p (item s i p)
      note_at = rw w.notes_are (row_at (noted (item s i) p) s.n (item s i p) 0 below)

      refused_8 : (get_or notes (item s i p) 0 ≡ 0 → ⊥) → in_list s i ≡ refused 8 (i + 1) (p + 1)
      unfolding fault not_item standing stood_earlier
      refused_8 h =
          let taken : eqb (noted (item s i) p (item s i p)) 0 ≡ false = ne_eqb (noted (item s i) p (item s i p)) 0 (λ e. h (note_at ∙ e)) in
          let stood : stood_earlier s i p ≡ true = not-false (stood_earlier s i p) (sym (noted_free (item s i) p (item s i p)) ∙ taken) in
          refused_at (rw (lt-leb s.n (item s i p) below, stood))

      module _ (free : get_or notes (item s i p) 0 ≡ 0) (small : score s i p ≤ 4294967295) where
        new : stood_earlier s i p ≡ false
        unfolding stood_earlier
        new =
            not-true (stood_earlier s i p)
            (sym (noted_free (item s i) p (item s i p)) ∙ eq-eqb (noted (item s i) p (item s i p)) 0 (sym note_at ∙ free))

        refused_9 : before < score s i p → in_list s i ≡ refused 9 (i + 1) (p + 1)
        unfolding fault not_item standing
        refused_9 h =
            let up : rises s i p ≡ true = rises_is p small ∙ rw (← w.before_is) (lt-ltb before (score s i p) h) in
            refused_at (rw (lt-leb s.n (item s i p) below, new, up))

        walk_goes_on : score s i p ≤ before → Walked (set_at notes (item s i p) (p + 1)) (score s i p) (p + 1)
        unfolding fault not_item standing first_refusal score_before
        walk_goes_on h =
            let level : rises s i p ≡ false = rises_is p small ∙ rw (← w.before_is) (le-ltb before (score s i p) h) in
            let passes : fault s i p ≡ accepted = rw (lt-leb s.n (item s i p) below, new, level) in
            record {
              within = omega arith;
              notes_are = rw w.notes_are
                  (noted_store (item s i) s.n p below ∙ ap (λ (q : ℕ). row (noted (item s i) q) s.n) (sym (add-one p)));
              none_refused = rw (add-one p, w.none_refused, passes);
              before_is = rw add-one;
            }

-- as the walk of list i of n entries has them: each way out, and one step more
module _ {i n : ℕ} {items scores : List ℕ} where
  pub starts : {notes : List ℕ} {k : ℕ} → k ≡ n → notes ≡ replicate k 0 → Walked (poses 0 n items scores) i notes 4294967295 0
  starts size e = rw (e, size) (walk_starts (poses 0 n items scores) i)

  module _ {notes : List ℕ} {before p d : ℕ} (w : Walked (poses 0 n items scores) i notes before p) (inside : p < n) (d_is : d ≡ get_or items (i * n + p) 0) where
    pub unknown : {t : Spot} → n ≤ d → t.list ≡ i + 1 → t.position ≡ p + 1 → ListNoted i n items scores (Err (UnknownItem t)) notes
    unfolding item
    unknown h list position = list_refused (rw (list, position)) (refused_7 (poses 0 n items scores) i w inside (rw d_is at h))

    pub twice : {t : Spot} → d < n → (get_or notes d 0 ≡ 0 → ⊥) → t.list ≡ i + 1 → t.position ≡ p + 1
        → ListNoted i n items scores (Err (ItemTwice t)) notes
    unfolding item
    twice below taken list position =
        list_refused (rw (list, position)) (refused_8 (poses 0 n items scores) i w inside (rw d_is at below) (rw d_is at taken))

    module _ (below : d < n) (free : get_or notes d 0 ≡ 0) {x : ℕ} (x_is : x ≡ get_or scores (i * n + p) 0) (small : x < 4294967296) where
      fits : score (poses 0 n items scores) i p ≤ 4294967295
      unfolding score
      fits = rw (← x_is) (omega arith)

      pub rises_here : {t : Spot} → before < x → t.list ≡ i + 1 → t.position ≡ p + 1 → ListNoted i n items scores (Err (ScoreRises t)) notes
      unfolding item score
      rises_here up list position =
          list_refused (rw (list, position))
          (refused_9 (poses 0 n items scores) i w inside (rw d_is at below) (rw d_is at free) fits (rw x_is at up))

      pub goes_on : x ≤ before → Walked (poses 0 n items scores) i (set_at notes d (p + 1)) x (p + 1)
      unfolding item score
      goes_on level =
          rw (d_is, x_is) (walk_goes_on (poses 0 n items scores) i w inside (rw d_is at below) (rw d_is at free) fits (rw x_is at level))

  pub passes : {notes : List ℕ} {before p : ℕ} → Walked (poses 0 n items scores) i notes before p → n ≤ p → ListNoted i n items scores (Ok tt) notes
  unfolding in_list
  passes {p = p} w h =
      let whole : p ≡ n = omega (arith, w.within) in
      let all = rw whole at w in
      list_passed {r = Ok tt} (λ i. told accepted) all.none_refused all.notes_are
