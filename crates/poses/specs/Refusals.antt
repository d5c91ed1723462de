-- A refusal as the specification tells it: by number, list and position.
--     told_of      of a refusal
--     value_of     of what a call gives back: all three are 0 where it is accepted
--     told_once    two refusals that are told alike are one
--     number_some  a refusal's number is not 0
--     refused_as   a verdict that is told as a refusal is refuses by it
-- Assumes nothing.
use Rattle.std.specs.Prelude.{◌≡◌, refl, List, [], ◌∷◌, ℕ, ◌-◌, get_or, Result, Ok, Err}
use Rattle.std.proofs.Common.{ap, sym, ◌∙◌, arith}
use Rattle.model.specs.Refusals.{Verdict, accepted, refused}
use Rattle.model.specs.Answers.{Told, told}
use Rattle.poses.specs.declared.refusals.Refusal.{Refusal}
use Rattle.poses.specs.declared.refusals.Refusal.TheVariants.{WrongSize, WrongCount, WrongRule, WrongWeights, ShortLists, ShortRoom, UnknownItem, ItemTwice, ScoreRises, ShortRecord, WrongLength, WrongVersion, WrongCounts}

-- number, list and position of a refusal; "every other refusal carries 0, 0"
abbrev pub told_of : Refusal → Told
told_of WrongSize = told (refused 1 0 0)
told_of WrongCount = told (refused 2 0 0)
told_of WrongRule = told (refused 3 0 0)
told_of WrongWeights = told (refused 4 0 0)
told_of ShortLists = told (refused 5 0 0)
told_of ShortRoom = told (refused 6 0 0)
told_of (UnknownItem s) = told (refused 7 s.list s.position)
told_of (ItemTwice s) = told (refused 8 s.list s.position)
told_of (ScoreRises s) = told (refused 9 s.list s.position)
told_of ShortRecord = told (refused 10 0 0)
told_of WrongLength = told (refused 11 0 0)
told_of WrongVersion = told (refused 12 0 0)
told_of WrongCounts = told (refused 13 0 0)

-- the same of what a call gives back: 0 and no place where it is accepted
abbrev pub value_of : {T : Type 0} → Result T Refusal → Told
value_of (Ok x) = told accepted
value_of (Err e) = told_of e

-- the refusals by their numbers from 1, those that are met at a position at list i, position p
refusals_at : ℕ → ℕ → List Refusal
refusals_at i p =
    WrongSize ∷ WrongCount ∷ WrongRule ∷ WrongWeights ∷ ShortLists ∷ ShortRoom
    ∷ UnknownItem (record { list = i; position = p }) ∷ ItemTwice (record { list = i; position = p })
    ∷ ScoreRises (record { list = i; position = p })
    ∷ ShortRecord ∷ WrongLength ∷ WrongVersion ∷ WrongCounts ∷ []

refusal_again : Told → Refusal
refusal_again t = get_or (refusals_at t.list t.position) (t.number - 1) WrongSize

told_again : (e : Refusal) → refusal_again (told_of e) ≡ e
unfolding refusal_again refusals_at
told_again WrongSize = refl
told_again WrongCount = refl
told_again WrongRule = refl
told_again WrongWeights = refl
told_again ShortLists = refl
told_again ShortRoom = refl
told_again (UnknownItem s) = refl
told_again (ItemTwice s) = refl
told_again (ScoreRises s) = refl
told_again ShortRecord = refl
told_again WrongLength = refl
told_again WrongVersion = refl
told_again WrongCounts = refl

-- two refusals that are told alike are one
pub told_once : (d e : Refusal) → told_of d ≡ told_of e → d ≡ e
told_once d e same = sym (told_again d) ∙ ap refusal_again same ∙ told_again e

-- a refusal's number is not 0
pub number_some : (e : Refusal) → (told_of e).number ≡ 0 → ⊥
number_some WrongSize h = absurd (omega (arith, h))
number_some WrongCount h = absurd (omega (arith, h))
number_some WrongRule h = absurd (omega (arith, h))
number_some WrongWeights h = absurd (omega (arith, h))
number_some ShortLists h = absurd (omega (arith, h))
number_some ShortRoom h = absurd (omega (arith, h))
number_some (UnknownItem s) h = absurd (omega (arith, h))
number_some (ItemTwice s) h = absurd (omega (arith, h))
number_some (ScoreRises s) h = absurd (omega (arith, h))
number_some ShortRecord h = absurd (omega (arith, h))
number_some WrongLength h = absurd (omega (arith, h))
number_some WrongVersion h = absurd (omega (arith, h))
number_some WrongCounts h = absurd (omega (arith, h))

-- a verdict that is told as a refusal is refuses by it
pub refused_as : (e : Refusal) (v : Verdict) → told_of e ≡ told v → v ≡ refused (told_of e).number (told_of e).list (told_of e).position
refused_as e accepted same = absurd (number_some e (ap (λ (t : Told). t.number) same))
refused_as e (refused x i p) same = ap (λ (t : Told). refused t.number t.list t.position) (sym same)
