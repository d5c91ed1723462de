-- What a search is given (docs/SPECIFICATION.md, "Pose sets" and "Queries").
--     Poses            a pose set as it is lent: m lists, n items, the item slice and the score slice
--     item, score      what stands in a list at a position
--     place            where an item stands in a list
--     Query            the rule, and each list's weight; k stands apart, since no access depends on it
--     overall          local scores, one from each list, as one overall score
--     total            an item's overall score
-- Lists, positions and items count from 0 here.
use Rattle.std.specs.Prelude.{cond, List, ℕ, zero, suc, ◌+◌, ◌*◌, min, max, eqb, get_or}
use Rattle.model.specs.Words.{first}

-- "A pose set has m lists and n items. The lists are lent as an item slice and a score slice"
pub record Poses : Type 0 where
  pub m : ℕ
  pub n : ℕ
  pub items : List ℕ
  pub scores : List ℕ

-- "list i, position p stands at (i-1) x n + p - 1 in both": the item there
unfoldable pub item : Poses → ℕ → ℕ → ℕ
item s i p = get_or s.items (i * s.n + p) 0

-- and the local score there
unfoldable pub score : Poses → ℕ → ℕ → ℕ
score s i p = get_or s.scores (i * s.n + p) 0

-- item d's position in list i: the first at which it stands, n where it stands nowhere
unfoldable pub place : Poses → ℕ → ℕ → ℕ
place s i d = first (λ p. eqb (item s i p) d) s.n 0

-- "A query is a rule, k and m weights"
pub record Query : Type 0 where
  pub rule : ℕ
  pub weight : ℕ → ℕ

-- "rule 0, the sum of the products; rule 1, the smallest product; rule 2, the largest product": of two
unfoldable pub join_two : ℕ → ℕ → ℕ → ℕ
join_two rule a b = cond (eqb rule 0) (a + b) (cond (eqb rule 1) (min a b) (max a b))

-- product b of list i joins what the lists before it came to; the first list's stands for itself
unfoldable pub join : ℕ → ℕ → ℕ → ℕ → ℕ
join rule zero a b = b
join rule (suc i) a b = join_two rule a b

-- the products x 0, x 1, .. of the first i lists, joined by the rule
unfoldable pub joined : ℕ → (ℕ → ℕ) → ℕ → ℕ
joined rule x zero = 0
joined rule x (suc i) = join rule i (joined rule x i) (x i)

-- "with each local score times its list's weight": the local scores x 0, x 1, .. of the m lists as one overall score
unfoldable pub overall : Poses → Query → (ℕ → ℕ) → ℕ
overall s q x = joined q.rule (λ i. x i * q.weight i) s.m

-- "An item's overall score"
unfoldable pub total : Poses → Query → ℕ → ℕ
total s q d = overall s q (λ i. score s i (place s i d))
