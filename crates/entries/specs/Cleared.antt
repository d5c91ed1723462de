-- A slice whose start is set to 0.
--     cleared            a whole slice that is cleared
-- Assumes nothing.
use Rattle.std.specs.Prelude.{◌≡◌, List, ◌++◌, ℕ, length, drop, replicate}
use Rattle.std.proofs.Common.{append-nil, le_of_eq, drop_of_length-le}

-- a whole slice that is cleared
pub cleared : (n : ℕ) (l : List ℕ) → length l ≡ n → replicate n 0 ++ drop n l ≡ replicate n 0
cleared n l e = rw (drop_of_length-le l (le_of_eq e)) (append-nil (replicate n 0))
