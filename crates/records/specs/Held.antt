-- What a record keeps that passes its tests, and that a refusal is never numbered 0.
--     refused_by                         told by a number other than 0: refused by it
--     query_accepted, lists_accepted     told by 0: accepted
--     QueryHeld, query_held              a query record that passes: its head and its weights lie within the bytes
--     ListsHeld, lists_held              a list record that passes: its sizes, and the bytes are the record
-- Assumes nothing.
use Rattle.std.specs.Prelude.{◌≡◌, refl, Bool, true, false, not, List, ℕ, ◌+◌, ◌-◌, ◌*◌, ◌≤◌, ◌<◌, eqb, ltb}
use Rattle.std.proofs.Common.{sym, ap, ◌∙◌}
use native.Mathlib.Omega.{arith}
use Rattle.std.proofs.Math.ListN.{length}
use borrow.Author.Tests.{ltb-false, eqb-true, not-false}
use Rattle.model.specs.Refusals.{Verdict, accepted, refused, ◌when◌, ◌then◌, wrong_size}
use Rattle.model.specs.Records.{byte, quad, query_count, query_head, lists_m, lists_n, lists_head}
use Rattle.model.specs.Answers.{told}
use Rattle.laws.specs.Verdicts.{accepted≢refused, when_passes, Numbered, numbered_when, numbered_then, told_zero}
use Rattle.laws.specs.Accepted.{Sized, sized}
use Rattle.heads.specs.Heads.{query_says, query_from_12, query_from_13, query_from_11, lists_says, lists_from_11, lists_from_12, lists_from_1, lists_from_13}

-- past one test more
when_then : (x : ℕ) (t : Bool) (later : Verdict) → (x when t then later) ≡ accepted → (t ≡ false) × (later ≡ accepted)
when_then x true later e = absurd (accepted≢refused (sym e))
when_then x false later e = (refl, e)

numbered_test : (x : ℕ) (t : Bool) (later : Verdict) → 0 < x → Numbered later → Numbered (x when t then later)
numbered_test x t later h n = numbered_then (x when t) later (numbered_when x t h) n

-- a verdict that is told by a number other than 0 refuses by it
pub refused_by : {X : Type 0} (v : Verdict) {x : ℕ} → x ≡ (told v).number → (x ≡ 0 → ⊥) → ((i p : ℕ) → v ≡ refused x i p → X) → X
refused_by accepted e bad f = absurd (bad e)
refused_by (refused y i p) e bad f = f i p (ap (λ (z : ℕ). refused z i p) (sym e))

-- ---- a query record
module _ (b : List ℕ) where
  pub numbered_query : Numbered (query_head b)
  unfolding query_head
  numbered_query =
      numbered_test 10 (ltb (length b) 9) (query_from_12 b) (omega arith)
      (numbered_test 12 (not (eqb (byte b 4) 1)) (query_from_13 b) (omega arith)
      (numbered_test 13 (not (eqb (quad b 0) (query_says b))) (query_from_11 b) (omega arith)
      (numbered_when 11 (ltb (length b - 4) (quad b 0)) (omega arith))))

  pub query_accepted : {x : ℕ} → x ≡ (told (query_head b)).number → x ≡ 0 → query_head b ≡ accepted
  query_accepted e none = told_zero (query_head b) numbered_query (sym e ∙ none)

  -- the head and the weights lie within the bytes
  pub record QueryHeld : Type 0 where
    pub head_in : 9 ≤ length b
    pub weights_in : 9 + 2 * query_count b ≤ length b

  pub query_held : query_head b ≡ accepted → QueryHeld
  unfolding query_head
  query_held e =
      let after_10 = when_then 10 (ltb (length b) 9) (query_from_12 b) e in
      let after_12 = when_then 12 (not (eqb (byte b 4) 1)) (query_from_13 b) after_10.1 in
      let after_13 = when_then 13 (not (eqb (quad b 0) (query_says b))) (query_from_11 b) after_12.1 in
      let head : 9 ≤ length b = ltb-false (length b) 9 after_10.0 in
      let counts = eqb-true (quad b 0) (query_says b) (not-false (eqb (quad b 0) (query_says b)) after_13.0) in
      let ends = ltb-false (length b - 4) (quad b 0) (when_passes 11 (ltb (length b - 4) (quad b 0)) after_13.1) in
      record { head_in = head; weights_in = omega arith }

-- ---- a list record
module _ (b : List ℕ) where
  pub numbered_lists : Numbered (lists_head b)
  unfolding lists_head
  numbered_lists =
      numbered_test 10 (ltb (length b) 8) (lists_from_11 b) (omega arith)
      (numbered_test 11 (not (eqb (quad b 0) (length b - 4))) (lists_from_12 b) (omega arith)
      (numbered_test 12 (not (eqb (byte b 4) 1)) (lists_from_1 b) (omega arith)
      (numbered_test 1 (wrong_size (lists_m b) (lists_n b)) (lists_from_13 b) (omega arith)
      (numbered_when 13 (not (eqb (quad b 0) (lists_says b))) (omega arith)))))

  pub lists_accepted : {x : ℕ} → x ≡ (told (lists_head b)).number → x ≡ 0 → lists_head b ≡ accepted
  lists_accepted e none = told_zero (lists_head b) numbered_lists (sym e ∙ none)

  -- the sizes are those that test 1 lets pass, and the bytes are head, house weights and m x n entries
  pub record ListsHeld : Type 0 where
    pub sizes : Sized (lists_m b) (lists_n b)
    pub whole : length b ≡ 8 + 2 * lists_m b + 4 * (lists_m b * lists_n b)

  pub lists_held : lists_head b ≡ accepted → ListsHeld
  unfolding lists_head
  lists_held e =
      let after_10 = when_then 10 (ltb (length b) 8) (lists_from_11 b) e in
      let after_11 = when_then 11 (not (eqb (quad b 0) (length b - 4))) (lists_from_12 b) after_10.1 in
      let after_12 = when_then 12 (not (eqb (byte b 4) 1)) (lists_from_1 b) after_11.1 in
      let after_1 = when_then 1 (wrong_size (lists_m b) (lists_n b)) (lists_from_13 b) after_12.1 in
      let head : 8 ≤ length b = ltb-false (length b) 8 after_10.0 in
      let ends = eqb-true (quad b 0) (length b - 4) (not-false (eqb (quad b 0) (length b - 4)) after_11.0) in
      let after_13 = when_passes 13 (not (eqb (quad b 0) (lists_says b))) after_1.1 in
      let counts = eqb-true (quad b 0) (lists_says b) (not-false (eqb (quad b 0) (lists_says b)) after_13) in
      record { sizes = sized (lists_m b) (lists_n b) after_1.0; whole = omega arith }
