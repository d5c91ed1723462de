-- A search by its number, and the number of a search.
--     method_of        the search of a number: 0 TA, 1 BPA, 2 BPA2, any other NRA
--     method_number    its number
-- Assumes nothing.
use Rattle.std.specs.Prelude.{ℕ, zero, suc}
use Rattle.poses.specs.declared.methods.Method.{Method}
use Rattle.poses.specs.declared.methods.Method.TheVariants.{Ta, Bpa, Bpa2, Nra}

-- the search of a number
abbrev pub method_of : ℕ → Method
method_of zero = Ta
method_of (suc zero) = Bpa
method_of (suc (suc zero)) = Bpa2
method_of (suc (suc (suc number))) = Nra

-- the number of a search
abbrev pub method_number : Method → ℕ
method_number Ta = 0
method_number Bpa = 1
method_number Bpa2 = 2
method_number Nra = 3
