-- The records that the contracts of the searches cite.
--     lent_with               everything that a search is lent
--     shape_of                the tests 1 to 6, by the slices' lengths; `shape_is`: they are the page's
--     Admitted               what the tests of a search answer, and the work slice afterwards
-- Assumes nothing.
use Rattle.std.specs.Prelude.{◌≡◌, refl, ◌||◌, List, ℕ, ◌*◌, ltb, length, Result, OnOk}
use Rattle.model.specs.Refusals.{Verdict, accepted, ◌when◌, ◌then◌, Lent, poses_of, wrong_size, wrong_k, wrong_rule, wrong_weights, short, no_lists, no_room, search_shape, search_verdict}
use Rattle.model.specs.Answers.{told, work_after}
use Rattle.poses.specs.declared.refusals.Refusal.{Refusal}
use Rattle.poses.specs.Refusals.{value_of}
use Rattle.entries.specs.Clauses.{poses}
use Rattle.lists.specs.Promises.{Accepted}
use Rattle.testing.specs.Clauses.{no_room_of}

-- everything that a search is lent
abbrev pub lent_with : ℕ → ℕ → ℕ → ℕ → List ℕ → List ℕ → List ℕ → List ℕ → List ℕ → List ℕ → List ℕ → List ℕ → Lent
lent_with m n rule k weights items scores picks lows highs tally work =
    record {
      m = m;
      n = n;
      rule = rule;
      k = k;
      weights = weights;
      items = items;
      scores = scores;
      picks = picks;
      lows = lows;
      highs = highs;
      tally = tally;
      work = work;
    }

-- the tests 1 to 6, by the slices' lengths
unfoldable pub shape_of : ℕ → ℕ → ℕ → ℕ → List ℕ → ℕ → ℕ → ℕ → ℕ → ℕ → ℕ → ℕ → Verdict
shape_of m n rule k weights items scores picks lows highs tally work =
    1 when wrong_size m n
    then 2 when wrong_k k n
    then 3 when wrong_rule rule
    then 4 when wrong_weights m weights
    then 5 when (ltb items (m * n) || ltb scores (m * n))
    then 6 when no_room_of k (m * n) picks lows highs tally work

-- they are the tests of the page
pub shape_is : (l : Lent)
    → search_shape l ≡ shape_of l.m l.n l.rule l.k l.weights (length l.items) (length l.scores) (length l.picks)
    (length l.lows) (length l.highs) (length l.tally) (length l.work)
unfolding search_shape shape_of no_lists no_room short poses_of
shape_is l = refl

-- Whatever slices of these lengths are lent: the answer to all tests, and the work slice afterwards; and where all are passed,
-- the lists are valid and the work slice holds the positions
pub record Admitted (m n rule k : ℕ) (weights items scores : List ℕ) (picks lows highs tally : ℕ) (work : List ℕ) (r : Result (Unit {0}) Refusal) (after : List ℕ) :
    Type 0 where
  pub answers : (a b c t : List ℕ) → length a ≡ picks → length b ≡ lows → length c ≡ highs → length t ≡ tally
      → value_of r ≡ told (search_verdict (lent_with m n rule k weights items scores a b c t work))
  pub leaves : (a b c t : List ℕ) → length a ≡ picks → length b ≡ lows → length c ≡ highs → length t ≡ tally
      → after ≡ work_after (search_shape (lent_with m n rule k weights items scores a b c t work)) (poses m n items scores) work
  pub passes : OnOk r (Accepted (poses m n items scores) after)
  pub shaped : OnOk r (shape_of m n rule k weights (length items) (length scores) picks lows highs tally (length work) ≡ accepted)
