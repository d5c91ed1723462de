-- The lines of the searches so far, and one more.
--     SoFar              the loop's invariant over the searches
--     so_far_none        no line
--     so_far_next        one line more, of a search that is accepted
--     so_far_refused     the line of a refusal, which is the only one
--     so_far_all         all four
--     line_of_number     the line of a search, by its number
-- Assumes nothing.
use mathlib.Core.Path.{◌≡◌, refl, sym, ap, subst, ◌∙◌}
use Rattle.poses.specs.declared.methods.Method.{Method}
use Rattle.poses.specs.Methods.{method_of, method_number}
use mathlib.Core.List.{List}
use Prim.Native.Nat.{ℕ, zero, suc, ◌+◌, ◌*◌, ◌≤◌, ◌<◌}
use native.Mathlib.Omega.{arith}
use Rattle.model.specs.Refusals.{Verdict, accepted, Lent, search_verdict}
use Rattle.model.specs.Answers.{told}
use Rattle.fields.specs.Clauses.{Appended}
use Rattle.fields.specs.Appending.{appended_none, appended_is, appended_then}
use Rattle.std.specs.Prelude.{Result}
use Rattle.poses.specs.declared.refusals.Refusal.{Refusal}
use Rattle.poses.specs.Refusals.{value_of}
use Rattle.wording.specs.Clauses.{line_room}
use Rattle.lines.specs.Clauses.{one_line, lines_to, LineMade, Lines}
use Rattle.lines.specs.Alike.{Alike, alike_verdict, alike_one}
use Rattle.lines.specs.Lines.{one_refused, told_accepted, lines_next, lines_four}

-- The lines of the first so many searches stand at the start of the slice; after the first, no search is refused
pub record SoFar (which : ℕ) (l : Lent) (before : List ℕ) (at : ℕ) (out : List ℕ) : Type 0 where
  pub most : which ≤ 4
  pub short : at ≤ which * line_room
  pub passed : 0 < which → search_verdict l ≡ accepted
  pub appended : Appended (lines_to which l) before 0 out at

pub so_far_none : (l : Lent) (before : List ℕ) → SoFar 0 l before 0 before
unfolding lines_to
so_far_none l before =
    record {
      most = omega arith;
      short = omega arith;
      passed = λ h. absurd (omega (arith, h));
      appended = appended_none before 0 (omega arith);
    }

-- a refusal is told by the first search, and is the only line
refused_first : (which : ℕ) {l : Lent} {before out after : List ℕ} {at end : ℕ} → SoFar which l before at out
    → Appended (one_line which l) out at after end → ((told (search_verdict l)).number ≡ 0 → ⊥) → Lines l before end after
unfolding lines_to
refused_first zero {l} so_far w some = appended_is (one_refused l 0 some) (appended_then so_far.appended w)
refused_first (suc which) so_far w some =
    absurd (some (ap (λ (v : Verdict). (told v).number) (so_far.passed (omega arith))))

module _ {which : ℕ} {l now_lent : Lent} {before out after : List ℕ} {at end : ℕ} {made : Result (Unit {0}) Refusal}
    (so_far : SoFar which l before at out) (alike : Alike now_lent l) (one : LineMade which now_lent out at made end after) where
  -- the line that was made is one over what was lent at the start
  number_same : (value_of made).number ≡ (told (search_verdict l)).number
  number_same = one.number_is ∙ ap (λ (v : Verdict). (told v).number) (alike_verdict alike)

  line_same : Appended (one_line which l) out at after end
  line_same = appended_is (alike_one alike which) one.appended

  pub so_far_next : (value_of made).number ≡ 0 → which < 4 → SoFar (which + 1) l before end after
  so_far_next none more =
      let passes = told_accepted l (sym number_same ∙ none) in
      record {
        most = omega arith;
        short = omega (arith, one.short, so_far.short);
        passed = λ _. passes;
        appended = appended_is (lines_next l which passes) (appended_then so_far.appended line_same);
      }

  pub so_far_refused : ((value_of made).number ≡ 0 → ⊥) → Lines l before end after
  so_far_refused some = refused_first which so_far line_same (λ none. some (number_same ∙ none))

pub so_far_all : {which : ℕ} {l : Lent} {before out : List ℕ} {at : ℕ} → SoFar which l before at out → 4 ≤ which
    → Lines l before at out
so_far_all {which} {l} {before} {out} {at} so_far done =
    let four : which ≡ 4 = omega (arith, so_far.most) in
    let all : Appended (lines_to 4 l) before 0 out at = rw four at so_far.appended in
    appended_is (lines_four l (so_far.passed (omega arith))) all

number_kept : (number : ℕ) → number < 4 → method_number (method_of number) ≡ number
number_kept zero small = refl
number_kept (suc zero) small = refl
number_kept (suc (suc zero)) small = refl
number_kept (suc (suc (suc zero))) small = refl
number_kept (suc (suc (suc (suc number)))) small = absurd (omega (arith, small))

-- the line of a search by its number
pub line_of_number : {number : ℕ} {method : Method} {l : Lent} {before after : List ℕ} {at end : ℕ} {made : Result (Unit {0}) Refusal}
    → method ≡ method_of number → number < 4 → LineMade (method_number method) l before at made end after
    → LineMade number l before at made end after
line_of_number {number} {method} {l} {before} {after} {at} {end} {made} same small line =
    subst (λ (which : ℕ). LineMade which l before at made end after) (ap method_number same ∙ number_kept number small) line
