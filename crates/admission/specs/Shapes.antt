-- The tests of a search as laws: what they let pass.
--     weights_long, weight_small     weights that pass their test
--     k_passes           a k that passes its test
--     Flat, numbered_shape, flat_shape       a shape's refusal has a number that is not 0, and carries 0, 0
--     Shape, shape_told, shape_passes        what the tests 1 to 6 let pass: exactly where a shape is accepted
--     numbered_search    a search's refusal has a number that is not 0
--     check_shape_accepted        a search's shape that passes is one that the list check lets pass
--     Accepts, accepts   what an accepted call is: k, the weights and the lists are right
-- Assumes nothing.
use Rattle.std.specs.Prelude.{◌≡◌, refl, Bool, true, false, not, ◌||◌, List, ℕ, zero, suc, ◌*◌, ◌≤◌, eqb, length}
use Rattle.std.proofs.Common.{sym, ◌∙◌, arith}
use Rattle.std.proofs.Math.Dec.{ltb}
use borrow.Author.Tests.{ltb-true, ltb-false, le-ltb, eqb-true, eqb-false, not-false}
use Rattle.model.specs.Words.{some_below}
use Rattle.model.specs.Refusals.{Verdict, accepted, refused, ◌when◌, ◌then◌, Lent, poses_of, weight_of, wrong_size, wrong_k, wrong_rule, wrong_weights, short, no_lists, in_lists, search_shape, search_verdict, check_shape, check_verdict}
use Rattle.model.specs.Answers.{told}
use Rattle.laws.specs.Tests.{by_cases, or_no, some_not}
use Rattle.laws.specs.Verdicts.{when_passes, then_first, then_second, Numbered, numbered_when, numbered_then, numbered_lists}
use Rattle.laws.specs.Accepted.{Valid, valid}
use Rattle.entries.specs.Clauses.{poses}
use Rattle.testing.specs.Clauses.{no_room_of}
use Rattle.testing.specs.Weights.{weight_past}
use Rattle.admission.specs.Clauses.{shape_of, shape_is}

-- what the weights' test lets pass: they are 2m bytes, and no weight is above 1,000. Past the last there is none
pub weights_long : (m : ℕ) (bytes : List ℕ) → wrong_weights m bytes ≡ false → length bytes ≡ 2 * m
unfolding wrong_weights
weights_long m bytes right =
    let both = or_no (not (eqb (length bytes) (2 * m))) (some_below (λ i. ltb 1000 (weight_of bytes i)) m) right in
    eqb-true (length bytes) (2 * m) (not-false (eqb (length bytes) (2 * m)) both.0)

pub weight_small : (m : ℕ) (bytes : List ℕ) → wrong_weights m bytes ≡ false → (i : ℕ) → weight_of bytes i ≤ 1000
unfolding wrong_weights
weight_small m bytes right i =
    let both = or_no (not (eqb (length bytes) (2 * m))) (some_below (λ i. ltb 1000 (weight_of bytes i)) m) right in
    by_cases (ltb i m)
    (λ (y : ltb i m ≡ true). ltb-false 1000 (weight_of bytes i) (some_not (λ i. ltb 1000 (weight_of bytes i)) m i both.1 (ltb-true i m y)))
    (λ (z : ltb i m ≡ false). omega (arith, weight_past bytes m i (weights_long m bytes right) (ltb-false i m z)))

positive : (k : ℕ) → (k ≡ 0 → ⊥) → 1 ≤ k
positive zero some = absurd (some refl)
positive (suc k) some = omega arith

pub k_passes : (k n : ℕ) → wrong_k k n ≡ false → (1 ≤ k) × (k ≤ n)
unfolding wrong_k
k_passes k n right =
    let both = or_no (eqb k 0) (ltb n k) right in
    (positive k (eqb-false k 0 both.0), ltb-false n k both.1)

-- a refusal that is met at no position
abbrev pub Flat : Verdict → Type 0
Flat v = ((told v).list ≡ 0) × ((told v).position ≡ 0)

flat_when : (x : ℕ) (b : Bool) → Flat (x when b)
flat_when x true = (refl, refl)
flat_when x false = (refl, refl)

flat_then : (v w : Verdict) → Flat v → Flat w → Flat (v then w)
flat_then accepted w a b = b
flat_then (refused x i p) w a b = a

module _ (m n rule k : ℕ) (weights : List ℕ) (items scores picks lows highs tally work : ℕ) where
  abbrev one : Verdict
  one = 1 when wrong_size m n

  abbrev two : Verdict
  two = 2 when wrong_k k n

  abbrev three : Verdict
  three = 3 when wrong_rule rule

  abbrev four : Verdict
  four = 4 when wrong_weights m weights

  abbrev five : Verdict
  five = 5 when (ltb items (m * n) || ltb scores (m * n))

  abbrev six : Verdict
  six = 6 when no_room_of k (m * n) picks lows highs tally work

  pub numbered_shape : Numbered (shape_of m n rule k weights items scores picks lows highs tally work)
  unfolding shape_of
  numbered_shape =
      numbered_then one (two then three then four then five then six) (numbered_when 1 (wrong_size m n) (omega arith))
      (numbered_then two (three then four then five then six) (numbered_when 2 (wrong_k k n) (omega arith))
      (numbered_then three (four then five then six) (numbered_when 3 (wrong_rule rule) (omega arith))
      (numbered_then four (five then six) (numbered_when 4 (wrong_weights m weights) (omega arith))
      (numbered_then five six (numbered_when 5 (ltb items (m * n) || ltb scores (m * n)) (omega arith))
      (numbered_when 6 (no_room_of k (m * n) picks lows highs tally work) (omega arith))))))

  pub flat_shape : Flat (shape_of m n rule k weights items scores picks lows highs tally work)
  unfolding shape_of
  flat_shape =
      flat_then one (two then three then four then five then six) (flat_when 1 (wrong_size m n))
      (flat_then two (three then four then five then six) (flat_when 2 (wrong_k k n))
      (flat_then three (four then five then six) (flat_when 3 (wrong_rule rule))
      (flat_then four (five then six) (flat_when 4 (wrong_weights m weights))
      (flat_then five six (flat_when 5 (ltb items (m * n) || ltb scores (m * n))) (flat_when 6 (no_room_of k (m * n) picks lows highs tally work))))))

  -- What the tests 1 to 6 let pass
  pub record Shape : Type 0 where
    pub sizes : wrong_size m n ≡ false
    pub k_right : wrong_k k n ≡ false
    pub rule_right : wrong_rule rule ≡ false
    pub weights_right : wrong_weights m weights ≡ false
    pub items_long : m * n ≤ items
    pub scores_long : m * n ≤ scores
    pub picks_long : k ≤ picks
    pub lows_long : k ≤ lows
    pub highs_long : k ≤ highs
    pub tally_long : m * n ≤ tally
    pub work_long : m * n ≤ work

  pub shape_told : shape_of m n rule k weights items scores picks lows highs tally work ≡ accepted → Shape
  unfolding shape_of
  shape_told e =
      let from2 = then_second one (two then three then four then five then six) e in
      let from3 = then_second two (three then four then five then six) from2 in
      let from4 = then_second three (four then five then six) from3 in
      let from5 = then_second four (five then six) from4 in
      let lists =
      or_no (ltb items (m * n)) (ltb scores (m * n)) (when_passes 5 (ltb items (m * n) || ltb scores (m * n)) (then_first five six from5)) in
      let room = when_passes 6 (no_room_of k (m * n) picks lows highs tally work) (then_second five six from5) in
      let r5 = or_no (ltb picks k || ltb lows k || ltb highs k || ltb tally (m * n)) (ltb work (m * n)) room in
      let r4 = or_no (ltb picks k || ltb lows k || ltb highs k) (ltb tally (m * n)) r5.0 in
      let r3 = or_no (ltb picks k || ltb lows k) (ltb highs k) r4.0 in
      let r2 = or_no (ltb picks k) (ltb lows k) r3.0 in
      record {
        sizes = when_passes 1 (wrong_size m n) (then_first one (two then three then four then five then six) e);
        k_right = when_passes 2 (wrong_k k n) (then_first two (three then four then five then six) from2);
        rule_right = when_passes 3 (wrong_rule rule) (then_first three (four then five then six) from3);
        weights_right = when_passes 4 (wrong_weights m weights) (then_first four (five then six) from4);
        items_long = ltb-false items (m * n) lists.0;
        scores_long = ltb-false scores (m * n) lists.1;
        picks_long = ltb-false picks k r2.0;
        lows_long = ltb-false lows k r2.1;
        highs_long = ltb-false highs k r3.1;
        tally_long = ltb-false tally (m * n) r4.1;
        work_long = ltb-false work (m * n) r5.1;
      }

  pub shape_passes : Shape → shape_of m n rule k weights items scores picks lows highs tally work ≡ accepted
  unfolding shape_of
  shape_passes h =
      rw (
        h.sizes,
        h.k_right,
        h.rule_right,
        h.weights_right,
        le-ltb items (m * n) h.items_long,
        le-ltb scores (m * n) h.scores_long,
        le-ltb picks k h.picks_long,
        le-ltb lows k h.lows_long,
        le-ltb highs k h.highs_long,
        le-ltb tally (m * n) h.tally_long,
        le-ltb work (m * n) h.work_long,
      )

-- a search's refusal has a number that is not 0
pub numbered_search : (l : Lent) → Numbered (search_verdict l)
unfolding search_verdict
numbered_search l =
    numbered_then (search_shape l) (in_lists (poses_of l))
    (rw (shape_is l) (numbered_shape l.m l.n l.rule l.k l.weights (length l.items) (length l.scores) (length l.picks)
    (length l.lows) (length l.highs) (length l.tally) (length l.work)))
    (numbered_lists (poses_of l))

-- the list check lets pass what passed a search's tests
pub check_shape_accepted : (m n rule k : ℕ) (weights items scores work : List ℕ) (picks lows highs tally : ℕ)
    → Shape m n rule k weights (length items) (length scores) picks lows highs tally (length work)
    → check_shape (poses m n items scores) work ≡ accepted
unfolding check_shape no_lists short
check_shape_accepted m n rule k weights items scores work picks lows highs tally h =
    rw (
      h.sizes,
      le-ltb (length items) (m * n) h.items_long,
      le-ltb (length scores) (m * n) h.scores_long,
      le-ltb (length work) (m * n)
          h.work_long,
    )

-- What an accepted call is
pub record Accepts (l : Lent) : Type 0 where
  pub lists_valid : Valid (poses_of l)
  pub k_least : 1 ≤ l.k
  pub k_most : l.k ≤ l.n
  pub shape : Shape l.m l.n l.rule l.k l.weights (length l.items) (length l.scores) (length l.picks) (length l.lows)
      (length l.highs) (length l.tally) (length l.work)

pub accepts : (l : Lent) → search_verdict l ≡ accepted → Accepts l
unfolding search_verdict check_verdict poses_of
accepts l e =
    let told = then_first (search_shape l) (in_lists (poses_of l)) e in
    let all = then_second (search_shape l) (in_lists (poses_of l)) e in
    let h =
    shape_told l.m l.n l.rule l.k l.weights (length l.items) (length l.scores) (length l.picks) (length l.lows)
    (length l.highs) (length l.tally) (length l.work) (sym (shape_is l) ∙ told) in
    let ks = k_passes l.k l.n h.k_right in
    record {
      lists_valid = valid (poses_of l) l.work (rw
          (check_shape_accepted l.m l.n l.rule l.k l.weights l.items l.scores l.work (length l.picks) (length l.lows)
          (length l.highs) (length l.tally) h) all);
      k_least = ks.0;
      k_most = ks.1;
      shape = h;
    }
