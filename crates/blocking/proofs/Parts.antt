-- The items met, asked in two parts: those from `at` on, and those in front.
--     none_found     none in either part: none of them
--     found_front    where none is from `at` on, what is found in front of it
-- Assumes nothing.
use Rattle.std.specs.Prelude.{◌≡◌, true, List, ℕ, ◌+◌, ◌-◌, ◌<◌, ltb, length, get_or, take, drop, Option, Some, None}
use Rattle.std.proofs.Common.{arith, ltb-true, ltb-false, length-take, length-drop}
use Rattle.std.proofs.lemmas.List.{get_or-take, get_or-drop}
use Rattle.laws.specs.Tests.{by_cases}
use Rattle.meeting.specs.Clauses.{View}
use Rattle.halting.specs.Clauses.{Blocking, passes_of}
use Rattle.blocking.specs.Clauses.{InTheWay}

module _ (v : View) (p bar at : ℕ) (met : List ℕ) (none : Blocking v p bar (drop at met) None) where
  none_found : Blocking v p bar (take at met) None → (j : ℕ) → j < length met → passes_of v p bar (get_or met j 0) ≡ true
  none_found front j h =
      by_cases (ltb j at)
      (λ y.
      let less = ltb-true j at y in
      let cut = length-take at met in
      rw (get_or-take at met j 0 less) at (front j (omega arith)))
      (λ z.
      let more = ltb-false j at z in
      let from : at + (j - at) ≡ j = omega arith in
      rw from at (rw (get_or-drop at met (j - at) 0) at (none (j - at) (omega (arith, length-drop at met)))))

  pub found_front : (r : Option ℕ) → Blocking v p bar (take at met) r → InTheWay v p bar met r
  found_front None front = none_found front
  found_front (Some j) b =
      let cut = length-take at met in
      (omega (arith, b.inside), rw (get_or-take at met j 0 (omega (arith, b.inside))) at b.in_the_way)
