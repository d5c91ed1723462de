-- Laws of tests that are made one after the other: `◌then◌`, `◌when◌`, `first_refusal`.
--     accepted≢refused           a verdict is not both
--     when_passes                a number that is not given: its test is false
--     then_first, then_second    both of two tests passed
--     first_refusal_all          where none refuses, none is the first
--     first_refusal_at           where the first i pass and i refuses, that refusal is the answer
--     first_refusal_none         where there is no first, none refuses
--     Numbered                   a verdict whose number, if it refuses, is not 0; kept by each way to make one
--     told_zero                  an answer of number 0 is an acceptance
-- Assumes nothing.
use Rattle.std.specs.Prelude.{◌≡◌, refl, Bool, true, false, List, ℕ, zero, suc, ◌*◌, ◌<◌}
use Rattle.std.proofs.Common.{sym, subst, ap, ◌∙◌, not-suc-le-zero, arith}
use Rattle.model.specs.Given.{Poses}
use Rattle.model.specs.Refusals.{Verdict, accepted, refused, ◌when◌, ◌then◌, wrong_size, short, no_lists, check_shape, check_verdict, not_item, stood_earlier, rises, standing, fault, first_refusal, in_list, in_lists}
use Rattle.model.specs.Answers.{told}
use Rattle.laws.specs.Tests.{below_suc}

abbrev IsAccepted : Verdict → Type 0
IsAccepted accepted = Unit {0}
IsAccepted (refused x i p) = ⊥

pub accepted≢refused : {x i p : ℕ} → accepted ≡ refused x i p → ⊥
accepted≢refused e = subst IsAccepted e tt

pub when_passes : (x : ℕ) (b : Bool) → (x when b) ≡ accepted → b ≡ false
when_passes x true e = absurd (accepted≢refused (sym e))
when_passes x false e = refl

pub then_first : (v w : Verdict) → (v then w) ≡ accepted → v ≡ accepted
then_first accepted w e = refl
then_first (refused x i p) w e = e

pub then_second : (v w : Verdict) → (v then w) ≡ accepted → w ≡ accepted
then_second accepted w e = e
then_second (refused x i p) w e = absurd (accepted≢refused (sym e))

-- a verdict is one or the other
pub by_verdict : {X : Type 0} (v : Verdict) → (v ≡ accepted → X) → ((x i p : ℕ) → v ≡ refused x i p → X) → X
by_verdict accepted f g = f refl
by_verdict (refused x i p) f g = g x i p refl

pub first_refusal_all : (f : ℕ → Verdict) (n : ℕ) → ((i : ℕ) → i < n → f i ≡ accepted) → first_refusal f n ≡ accepted
unfolding first_refusal
first_refusal_all f zero h = refl
first_refusal_all f (suc n) h = rw (first_refusal_all f n (λ i l. h i (omega arith)), h n (omega arith))

pub first_refusal_none : (f : ℕ → Verdict) (n i : ℕ) → first_refusal f n ≡ accepted → i < n → f i ≡ accepted
unfolding first_refusal
first_refusal_none f zero i e h = absurd (not-suc-le-zero h)
first_refusal_none f (suc n) i e h =
    below_suc i n h
    (λ (l : i < n). first_refusal_none f n i (then_first (first_refusal f n) (f n) e) l)
    (λ (q : i ≡ n). rw q (then_second (first_refusal f n) (f n) e))

-- the first i pass and i refuses: that is the answer, however many follow
pub first_refusal_at : (f : ℕ → Verdict) (n i : ℕ) {x j p : ℕ} → first_refusal f i ≡ accepted → f i ≡ refused x j p
    → i < n → first_refusal f n ≡ refused x j p
unfolding first_refusal
first_refusal_at f zero i a r h = absurd (not-suc-le-zero h)
first_refusal_at f (suc n) i a r h =
    below_suc i n h
    (λ (l : i < n). rw (first_refusal_at f n i a r l))
    (λ (q : i ≡ n). let a' : first_refusal f n ≡ accepted = rw q at a in let r' = ap f (sym q) ∙ r in rw (a', r'))

-- ---- a refusal's number is never 0
abbrev pub Numbered : Verdict → Type 0
Numbered accepted = Unit {0}
Numbered (refused x i p) = 0 < x

pub numbered_when : (x : ℕ) (b : Bool) → 0 < x → Numbered (x when b)
numbered_when x true h = h
numbered_when x false h = tt

pub numbered_then : (v w : Verdict) → Numbered v → Numbered w → Numbered (v then w)
numbered_then accepted w a b = b
numbered_then (refused x i p) w a b = a

pub numbered_standing : (i p : ℕ) (v : Verdict) → Numbered v → Numbered (standing i p v)
unfolding standing
numbered_standing i p accepted a = tt
numbered_standing i p (refused x j q) a = a

pub numbered_first : (f : ℕ → Verdict) (n : ℕ) → ((i : ℕ) → Numbered (f i)) → Numbered (first_refusal f n)
unfolding first_refusal
numbered_first f zero h = tt
numbered_first f (suc n) h = numbered_then (first_refusal f n) (f n) (numbered_first f n h) (h n)

pub numbered_list : (s : Poses) (i : ℕ) → Numbered (in_list s i)
unfolding in_list fault
numbered_list s i =
    numbered_first (fault s i) s.n
    (λ p.
    let seven = 7 when not_item s i p in
    let eight = 8 when stood_earlier s i p in
    let nine = 9 when rises s i p in
    numbered_standing i p (seven then eight then nine)
    (numbered_then seven (eight then nine)
    (numbered_when 7 (not_item s i p) (omega arith))
    (numbered_then eight nine (numbered_when 8 (stood_earlier s i p) (omega arith)) (numbered_when 9 (rises s i p) (omega arith)))))

pub numbered_lists : (s : Poses) → Numbered (in_lists s)
unfolding in_lists
numbered_lists s = numbered_first (in_list s) s.m (numbered_list s)

pub numbered_check : (s : Poses) (work : List ℕ) → Numbered (check_verdict s work)
unfolding check_verdict check_shape
numbered_check s work =
    let one = 1 when wrong_size s.m s.n in
    let five = 5 when no_lists s in
    let six = 6 when short (s.m * s.n) work in
    numbered_then (one then five then six) (in_lists s)
    (numbered_then one (five then six) (numbered_when 1 (wrong_size s.m s.n) (omega arith))
    (numbered_then five six (numbered_when 5 (no_lists s) (omega arith)) (numbered_when 6 (short (s.m * s.n) work) (omega arith))))
    (numbered_lists s)

pub told_zero : (v : Verdict) → Numbered v → (told v).number ≡ 0 → v ≡ accepted
told_zero accepted a e = refl
told_zero (refused x i p) a e = absurd (omega arith)
