-- The order of the shortlist, `ahead`, is a strict total order.
--     or_yes, never                      what a true `||` tells; a test that is never true
--     Ordering                           none before itself; through a third; one of two different ones before the other
--     not_both                           never both
--     Ahead, ahead_tells, ahead_is       the three ways in which an item stands ahead of another, and the test
--     ahead_ordering                     `ahead low high` is such an order
--     ahead_low                          an item that stands ahead has no smaller low
-- Assumes nothing.
use Rattle.std.specs.Prelude.{◌≡◌, refl, Bool, true, false, ◌&&◌, ◌||◌, ℕ, ◌≤◌, ◌<◌}
use Rattle.std.proofs.Common.{sym, ◌∙◌, true≢false, arith}
use Rattle.std.proofs.Math.Dec.{eqb, ltb}
use borrow.Author.Tests.{eqb-true, eq-eqb, ltb-true, ltb-false, lt-ltb, le-ltb}
use Rattle.model.specs.Searches.{ahead}
use Rattle.laws.specs.Tests.{by_cases, and_yes}

-- what a true `||` tells
pub or_yes : {X : Type 0} (a b : Bool) → (a || b) ≡ true → (a ≡ true → X) → (b ≡ true → X) → X
or_yes true b e f g = f refl
or_yes false b e f g = g e

-- a test that cannot be true is false
pub never : (b : Bool) → (b ≡ true → ⊥) → b ≡ false
never b h = by_cases b (λ y. absurd (h y)) (λ z. z)

-- A strict total order on items
pub record Ordering (before : ℕ → ℕ → Bool) : Type 0 where
  pub itself : (d : ℕ) → before d d ≡ false
  pub through : (d e f : ℕ) → before d e ≡ true → before e f ≡ true → before d f ≡ true
  pub either : (d e : ℕ) → (d ≡ e → ⊥) → before d e ≡ false → before e d ≡ true

-- never both
pub not_both : {before : ℕ → ℕ → Bool} → Ordering before → (d e : ℕ) → before d e ≡ true → before e d ≡ false
not_both {before} o d e y = never (before e d) (λ z. true≢false (sym (o.through d e d y z) ∙ o.itself d))

-- ---- ahead
-- The three ways in which item d stands ahead of item e
pub data Ahead (low high : ℕ → ℕ) (d e : ℕ) : Type 0 where
  by_low : low e < low d → Ahead low high d e
  by_high : low d ≡ low e → high e < high d → Ahead low high d e
  by_item : low d ≡ low e → high d ≡ high e → d < e → Ahead low high d e

module _ (low high : ℕ → ℕ) where
  pub ahead_tells : (d e : ℕ) → ahead low high d e ≡ true → Ahead low high d e
  unfolding ahead
  ahead_tells d e y =
      let item_less = ltb d e in
      let high_same = eqb (high d) (high e) in
      let high_more = ltb (high e) (high d) in
      let low_same = eqb (low d) (low e) in
      or_yes (ltb (low e) (low d)) (low_same && (high_more || (high_same && item_less))) y
      (λ a. by_low (ltb-true (low e) (low d) a))
      (λ b.
      let level = and_yes low_same (high_more || (high_same && item_less)) b in
      let same_low = eqb-true (low d) (low e) level.0 in
      or_yes high_more (high_same && item_less) level.1
      (λ c. by_high same_low (ltb-true (high e) (high d) c))
      (λ c.
      let last = and_yes high_same item_less c in
      by_item same_low (eqb-true (high d) (high e) last.0) (ltb-true d e last.1)))

  pub ahead_is : {d e : ℕ} → Ahead low high d e → ahead low high d e ≡ true
  unfolding ahead
  ahead_is {d} {e} (by_low l) = rw (lt-ltb (low e) (low d) l)
  ahead_is {d} {e} (by_high x l) =
      rw (le-ltb (low e) (low d) (omega arith), eq-eqb (low d) (low e) x, lt-ltb (high e) (high d) l)
  ahead_is {d} {e} (by_item x y l) =
      rw (le-ltb (low e) (low d) (omega arith), eq-eqb (low d) (low e) x)
      (rw (le-ltb (high e) (high d) (omega arith), eq-eqb (high d) (high e) y, lt-ltb d e l))

  ahead_through : {d e f : ℕ} → Ahead low high d e → Ahead low high e f → Ahead low high d f
  ahead_through (by_low a) (by_low b) = by_low (omega arith)
  ahead_through (by_low a) (by_high x b) = by_low (omega arith)
  ahead_through (by_low a) (by_item x y b) = by_low (omega arith)
  ahead_through (by_high x a) (by_low b) = by_low (omega arith)
  ahead_through (by_high x a) (by_high x' b) = by_high (x ∙ x') (omega arith)
  ahead_through (by_high x a) (by_item x' y b) = by_high (x ∙ x') (omega arith)
  ahead_through (by_item x y a) (by_low b) = by_low (omega arith)
  ahead_through (by_item x y a) (by_high x' b) = by_high (x ∙ x') (omega arith)
  ahead_through (by_item x y a) (by_item x' y' b) = by_item (x ∙ x') (y ∙ y') (omega arith)

  ahead_itself : {d : ℕ} → Ahead low high d d → ⊥
  ahead_itself (by_low a) = omega arith
  ahead_itself (by_high x a) = omega arith
  ahead_itself (by_item x y a) = omega arith

  -- one of two different items is ahead
  ahead_either : (d e : ℕ) → (d ≡ e → ⊥) → (Ahead low high d e → ⊥) → Ahead low high e d
  ahead_either d e other none =
      by_cases (ltb (low d) (low e))
      (λ a. by_low (ltb-true (low d) (low e) a))
      (λ a.
      by_cases (ltb (low e) (low d))
      (λ b. absurd (none (by_low (ltb-true (low e) (low d) b))))
      (λ b.
      let x : low d ≡ low e = omega (arith, ltb-false (low d) (low e) a, ltb-false (low e) (low d) b) in
      by_cases (ltb (high d) (high e))
      (λ c. by_high (sym x) (ltb-true (high d) (high e) c))
      (λ c.
      by_cases (ltb (high e) (high d))
      (λ f. absurd (none (by_high x (ltb-true (high e) (high d) f))))
      (λ f.
      let y : high d ≡ high e = omega (arith, ltb-false (high d) (high e) c, ltb-false (high e) (high d) f) in
      by_cases (ltb e d)
      (λ g. by_item (sym x) (sym y) (ltb-true e d g))
      (λ g.
      by_cases (ltb d e)
      (λ k. absurd (none (by_item x y (ltb-true d e k))))
      (λ k. absurd (other (omega (arith, ltb-false d e k, ltb-false e d g)))))))))

  pub ahead_ordering : Ordering (ahead low high)
  ahead_ordering =
      record {
        itself = λ d. never (ahead low high d d) (λ y. ahead_itself (ahead_tells d d y));
        through = λ d e f x y. ahead_is (ahead_through (ahead_tells d e x) (ahead_tells e f y));
        either = λ d e other z. ahead_is (ahead_either d e other (λ a. true≢false (sym (ahead_is a) ∙ z)));
      }

  -- an item that stands ahead has no smaller low
  pub ahead_low : (d e : ℕ) → ahead low high d e ≡ true → low e ≤ low d
  ahead_low d e y = low_of (ahead_tells d e y)
    where
      low_of : Ahead low high d e → low e ≤ low d
      low_of (by_low a) = omega arith
      low_of (by_high x a) = omega arith
      low_of (by_item x z a) = omega arith
