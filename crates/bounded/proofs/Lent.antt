-- The k greatest marks in the first part of the highs, which is lent for them.
--     cleared        that part once it is filled: k zeros
--     tops_gone      k entries written from the start leave no mark there
-- Assumes nothing.
use mathlib.Core.Path.{◌≡◌, sym, ◌∙◌}
use mathlib.Core.List.{List, ◌++◌}
use Prim.Native.Nat.{ℕ, ◌≤◌}
use lib.ListN.{length, drop, replicate, take}
use lib.Seq.{length-take-le}
use Rattle.model.specs.Words.{over}
use Rattle.laws.specs.Lists.{over_over}

pub cleared : (k : ℕ) (lent : List ℕ) {zeros : List ℕ} → k ≤ length lent → zeros ≡ replicate (length (take k lent)) 0 → zeros ≡ replicate k 0
cleared k lent room filled = rw (length-take-le k lent room) at filled

pub tops_gone : {k : ℕ} (tops lent l : List ℕ) → length tops ≡ k → length l ≡ k → over l (tops ++ drop k lent) ≡ over l lent
unfolding over
tops_gone tops lent l tops_size size = rw (← tops_size) (over_over l tops lent (size ∙ sym tops_size))
