-- What a search may rest on once its tests are passed.
--     TestsPassed, passed     the lists are valid and their places are in the work slice, k and the weights are right, the slices have room
-- Assumes nothing.
use Rattle.std.specs.Prelude.{◌≡◌, List, ℕ, ◌*◌, ◌≤◌, length, Ok}
use borrow.Author.Tests.{ltb-false}
use Rattle.model.specs.Refusals.{accepted, weight_of, wrong_rule}
use Rattle.laws.specs.Accepted.{Valid, Placed}
use Rattle.entries.specs.Clauses.{poses}
use Rattle.admission.specs.Clauses.{shape_of, Admitted}
use Rattle.admission.specs.Shapes.{weights_long, weight_small, k_passes, shape_told}

-- What the tests of a search let pass, with whatever slices of these lengths
pub record TestsPassed (m n rule k : ℕ) (weights items scores : List ℕ) (picks lows highs tally : ℕ) (work after : List ℕ) : Type 0 where
  pub lists_valid : Valid (poses m n items scores)
  pub work_placed : Placed (poses m n items scores) after
  pub k_least : 1 ≤ k
  pub k_most : k ≤ n
  pub rule_small : rule ≤ 2
  pub weights_length : length weights ≡ 2 * m
  pub weights_small : (i : ℕ) → weight_of weights i ≤ 1000
  pub picks_long : k ≤ picks
  pub lows_long : k ≤ lows
  pub highs_long : k ≤ highs
  pub tally_long : m * n ≤ tally
  pub shaped : shape_of m n rule k weights (length items) (length scores) picks lows highs tally (length work) ≡ accepted

pub passed : {m n rule k : ℕ} {weights items scores : List ℕ} {picks lows highs tally : ℕ} {work after : List ℕ} {u : Unit {0}}
    → Admitted m n rule k weights items scores picks lows highs tally work (Ok u) after
    → TestsPassed m n rule k weights items scores picks lows highs tally work after
unfolding wrong_rule
passed {m} {n} {rule} {k} {weights} {items} {scores} {picks} {lows} {highs} {tally} {work} a =
    let all = a.shaped in
    let h = shape_told m n rule k weights (length items) (length scores) picks lows highs tally (length work) all in
    let ks = k_passes k n h.k_right in
    record {
      lists_valid = a.passes.lists_valid;
      work_placed = a.passes.work_placed;
      k_least = ks.0;
      k_most = ks.1;
      rule_small = ltb-false 2 rule h.rule_right;
      weights_length = weights_long m weights h.weights_right;
      weights_small = weight_small m weights h.weights_right;
      picks_long = h.picks_long;
      lows_long = h.lows_long;
      highs_long = h.highs_long;
      tally_long = h.tally_long;
      shaped = all;
    }
