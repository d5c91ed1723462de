-- The names of the searches.
--     name_at        the name of a search by its number
--     name_most      it has at most four letters
-- Assumes nothing.
use Rattle.std.specs.Prelude.{List, ℕ, zero, suc, ◌≤◌, length}
use Rattle.std.proofs.Common.{arith}
use Rattle.model.specs.Program.{name_ta, name_bpa, name_bpa2, name_nra}

-- the name of a search by its number
unfoldable pub name_at : ℕ → List ℕ
name_at zero = name_ta
name_at (suc zero) = name_bpa
name_at (suc (suc zero)) = name_bpa2
name_at (suc (suc (suc which))) = name_nra

pub name_most : (which : ℕ) → length (name_at which) ≤ 4
unfolding name_at
name_most zero = omega arith
name_most (suc zero) = omega arith
name_most (suc (suc zero)) = omega arith
name_most (suc (suc (suc which))) = omega arith
