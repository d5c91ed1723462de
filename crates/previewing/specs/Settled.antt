-- What the making of the text promises to whoever calls it, and nothing of its inside.
--     preview_settles    any two results that meet the contract coincide: how long the text is, and the slice that holds it
--     preview_within     the text lies within the slice, so `&out[..end]` is the text
--     preview_text       and that part is the text
-- Assumes nothing.
use Rattle.std.specs.Prelude.{◌≡◌, List, ℕ, ◌≤◌, length, take, drop}
use Rattle.std.proofs.Common.{sym, ◌∙◌, arith, length-append, take_at}
use Rattle.model.specs.Words.{over}
use Rattle.model.specs.Program.{printed}
use Rattle.previewing.specs.Clauses.{Previewed}

pub preview_settles : {bytes before a b : List ℕ} {end end' : ℕ} → Previewed bytes before end a → Previewed bytes before end' b
    → (end ≡ end') × (a ≡ b)
preview_settles x y = (x.length_is ∙ sym y.length_is, x.text_is ∙ sym y.text_is)

module _ {bytes before after : List ℕ} {end : ℕ} (x : Previewed bytes before end after) where
  pub preview_within : end ≤ length after
  unfolding over
  preview_within = rw (x.text_is, length-append) (omega (arith, x.length_is))

  pub preview_text : take end after ≡ printed bytes
  unfolding over
  preview_text = rw x.text_is (take_at (printed bytes) (drop (length (printed bytes)) before) end (sym x.length_is))
