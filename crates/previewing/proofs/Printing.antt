-- Text at the start of a slice.
--     previewed      text that is written from the start on and is the printed one
-- Assumes nothing.
use mathlib.Core.Path.{◌≡◌, ap, ◌∙◌}
use mathlib.Core.List.{List, ◌++◌}
use Prim.Native.Nat.{ℕ}
use native.Mathlib.Omega.{arith}
use lib.ListN.{length, drop}
use Rattle.model.specs.Words.{over}
use Rattle.model.specs.Program.{printed}
use Rattle.fields.specs.Clauses.{Appended}
use Rattle.previewing.specs.Clauses.{Previewed}

pub previewed : {text bytes before after : List ℕ} {end : ℕ} → text ≡ printed bytes
    → Appended text before 0 after end → Previewed bytes before end after
unfolding over
previewed {text} {bytes} {before} {after} {end} same w =
    let ends : end ≡ length text = omega (arith, w.ends) in
    let whole : after ≡ text ++ drop (length text) before = w.holds ∙ ap (λ (n : ℕ). text ++ drop n before) ends in
    record { length_is = ends ∙ ap length same; text_is = rw same at whole }
