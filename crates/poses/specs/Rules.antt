-- A rule by its number, and the number of a rule.
--     rule_of          the rule of a number: 0 the sum, 1 the smallest, any other the largest
--     rule_number      its number
--     rule_kept        a number of at most 2 is that of its rule
--     join_kept        products join by a number as by its rule
--     join_later       a product of a list behind the first joins those before it
-- Assumes nothing.
use Rattle.std.specs.Prelude.{◌≡◌, refl, ℕ, zero, suc, ◌≤◌}
use Rattle.std.proofs.Common.{arith, ne_eqb}
use Rattle.model.specs.Given.{join, join_two}
use Rattle.poses.specs.declared.rules.Rule.{Rule}
use Rattle.poses.specs.declared.rules.Rule.TheVariants.{Sum, Smallest, Largest}

-- the rule of a number
abbrev pub rule_of : ℕ → Rule
rule_of zero = Sum
rule_of (suc zero) = Smallest
rule_of (suc (suc number)) = Largest

-- the number of a rule
abbrev pub rule_number : Rule → ℕ
rule_number Sum = 0
rule_number Smallest = 1
rule_number Largest = 2

-- a number of at most 2 is that of its rule
pub rule_kept : (number : ℕ) → number ≤ 2 → rule_number (rule_of number) ≡ number
rule_kept zero h = refl
rule_kept (suc zero) h = refl
rule_kept (suc (suc zero)) h = refl
rule_kept (suc (suc (suc number))) h = absurd (omega (arith, h))

-- a product of a list behind the first joins those before it
pub join_later : (rule i a b : ℕ) → (i ≡ 0 → ⊥) → join rule i a b ≡ join_two rule a b
unfolding join
join_later rule zero a b h = absurd (h refl)
join_later rule (suc i) a b h = refl

-- products join by a number as by its rule
pub join_kept : (number i a b : ℕ) → join (rule_number (rule_of number)) i a b ≡ join number i a b
unfolding join join_two
join_kept zero i a b = refl
join_kept (suc zero) i a b = refl
join_kept (suc (suc number)) zero a b = refl
join_kept (suc (suc number)) (suc i) a b =
    rw (ne_eqb (suc (suc number)) 0 (λ e. omega (arith, e)), ne_eqb (suc (suc number)) 1 (λ e. omega (arith, e)))
