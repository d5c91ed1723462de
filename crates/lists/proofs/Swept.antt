-- All lists at once: what `note_lists` promises where the sweeps pass.
--     noted_whole      the lists pass, and the work slice's first m x n entries are their positions
--     noted_after      what a walk promises of the work slice as the sweeps left it, it promises of the one that was lent
-- Assumes nothing.
use mathlib.Core.Path.{◌≡◌, refl, sym, ap, ◌∙◌}
use mathlib.Core.Bool.{true}
use mathlib.Core.List.{List, ◌++◌}
use Prim.Native.Nat.{ℕ, ◌+◌, ◌*◌}
use lib.ListN.{length, drop}
use lib.Seq.{drop-append_seam}
use Rattle.model.specs.Words.{over}
use Rattle.model.specs.Given.{Poses, place}
use Rattle.model.specs.Answers.{told, places}
use Rattle.laws.specs.Lists.{table_length}
use Rattle.std.specs.Prelude.{Result, Ok}
use Rattle.poses.specs.declared.refusals.Refusal.{Refusal}
use Rattle.passing.specs.Clauses.{WholeNoted}
use Rattle.lists.specs.Clauses.{ListsNoted}

module _ (s : Poses) (lent own : List ℕ) (long : length own ≡ s.m * s.n) where
  -- the work slice as the sweeps leave it
  abbrev swept : List ℕ
  swept = own ++ drop (s.m * s.n) lent

  swept_beyond : drop (s.m * s.n) swept ≡ drop (s.m * s.n) lent
  swept_beyond = rw (← long) (drop-append_seam own (drop (length own) lent))

  pub noted_whole : WholeNoted s true own → ListsNoted s lent (Ok tt) swept
  unfolding over
  noted_whole all =
      record {
        answers = ap told (sym (all.passes refl));
        notes = λ _. rw (← (all.notes refl), long);
        beyond = swept_beyond;
      }

  places_length : length (places s) ≡ s.m * s.n
  unfolding places
  places_length = table_length (λ i d. place s i d + 1) s.n s.m

  pub noted_after : {r : Result (Unit {0}) Refusal} {after : List ℕ} → ListsNoted s swept r after → ListsNoted s lent r after
  unfolding over
  noted_after p =
      let beyond : drop (length (places s)) swept ≡ drop (length (places s)) lent = rw places_length swept_beyond in
      record {
        answers = p.answers;
        notes = λ passes. p.notes passes ∙ ap (λ (l : List ℕ). places s ++ l) beyond;
        beyond = p.beyond ∙ swept_beyond;
      }
