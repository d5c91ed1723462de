-- `passing::note_whole` meets its contract: by what each sweep found (`all_pass`), or one that found something.
-- Assumes nothing.
use Rattle.std.proofs.Common.{rules, arith}
use mathlib.Core.Path.{◌≡◌, refl, sym, ◌∙◌}
use mathlib.Core.Bool.{Bool, true, false, not, true≢false, false≢true}
use mathlib.Core.List.{List}
use Prim.Native.Nat.{ℕ, ◌<◌}
use Rattle.model.specs.Given.{Poses, item}
use Rattle.model.specs.Refusals.{accepted, in_lists}
use Rattle.model.specs.Answers.{places}
use Rattle.poses.specs.Sets.{set_of}
use Rattle.passing.specs.Clauses.{WholeNoted}
use Rattle.passing.proofs.Whole.{all_small, all_pass, not_great, not_rising, not_empty}
use Rattle.passing.proofs.note_whole.Goals as goal

damaged_here : (s : Poses) {after : List ℕ} → (in_lists s ≡ accepted → ⊥) → WholeNoted s false after
damaged_here s bad = record { passes = λ told. absurd (false≢true told); damaged = λ _. bad; notes = λ told. absurd (false≢true told) }

pub returns-then-set-most : goal.returns-then-set-most
returns-then-set-most c =
    let s = set_of c.args.set in
    damaged_here s
    (λ all. not_great s all c.requires.0.n_least c.requires.0.items_long c.greatest.ensures (rw (← c.from-most.ensures) c.if-set-most.true))

pub note_until_rise-requires : goal.note_until_rise-requires
note_until_rise-requires c =
    let s = set_of c.args.set in
    let small : (i p : ℕ) → i < s.m → p < s.n → item s i p < s.n =
    all_small s c.requires.0.items_long c.greatest.ensures (omega (arith, c.from-most.ensures, c.if-set-most.false)) in
    record { within = c.requires.0; small = small; empty = rw c.requires.1 at c.fill.ensures.after (λ y e. e) }

-- whether a place is left empty decides
by_places : (s : Poses) {after : List ℕ} (empty : Bool) → (empty ≡ true → in_lists s ≡ accepted → ⊥)
    → (empty ≡ false → (in_lists s ≡ accepted) × (after ≡ places s)) → WholeNoted s (not empty) after
by_places s true bad good = damaged_here s (bad refl)
by_places s false bad good =
    record { passes = λ _. (good refl).0; damaged = λ told. absurd (true≢false told); notes = λ _. (good refl).1 }

pub returns-then-not-note_until_rise : goal.returns-then-not-note_until_rise
returns-then-not-note_until_rise c =
    let s = set_of c.args.set in
    let swept = c.note_until_rise.ensures.swept (search rules) in
    let small : (i p : ℕ) → i < s.m → p < s.n → item s i p < s.n =
    all_small s c.requires.0.items_long c.greatest.ensures (omega (arith, c.from-most.ensures, c.if-set-most.false)) in
    by_places s c.has_zero.result
    (λ empty all. not_empty s all swept (sym c.has_zero.ensures ∙ empty))
    (λ full. all_pass s small swept (sym c.has_zero.ensures ∙ full))

pub returns-else-not-note_until_rise : goal.returns-else-not-note_until_rise
returns-else-not-note_until_rise c =
    let s = set_of c.args.set in
    let up : c.note_until_rise.result ≡ true = search rules in
    rw up (damaged_here s (λ all. not_rising s all (c.note_until_rise.ensures.rising up)))
