-- A local score, or what stands for one that is not read, times a weight.
--     read_most, read_product_most     how large these are
-- Assumes nothing.
use Rattle.std.specs.Prelude.{Bool, true, false, List, cond, ℕ, ◌+◌, ◌-◌, ◌*◌, ◌≤◌, get_or, leb}
use Rattle.std.proofs.Common.{arith}
use Rattle.laws.specs.Overall.{product_most}
use Rattle.laws.specs.Tests.{by_cases}
use Rattle.meeting.specs.Clauses.{read_at, unread, Small}

module _ (n d depth i : ℕ) (high : Bool) (weights scores work : List ℕ) (small : Small weights scores) where
  read_most : read_at n scores work d depth (unread high n scores depth) i ≤ 65535
  unfolding read_at unread
  read_most =
      by_cases (leb (get_or work (i * n + d) 0) depth)
      (λ y. rw y (small.scores_small (i * n + get_or work (i * n + d) 0 - 1)))
      (λ z. rw z (unread_most high))
    where
      unread_most : (high : Bool) → cond high (get_or scores (i * n + depth - 1) 0) 0 ≤ 65535
      unread_most true = small.scores_small (i * n + depth - 1)
      unread_most false = omega arith

  pub read_product_most : read_at n scores work d depth (unread high n scores depth) i * get_or weights i 0 ≤ 65535000
  read_product_most = product_most _ _ read_most (small.weights_small i)
