-- Laws of text appended (`Appended`).
--     appended_none, appended_byte       nothing; one byte
--     appended_then                      one text after the other
--     appended_length                    the slice keeps its length
--     appended_is                        the same of a text that is equal
--     appended_settles                   two results with the same entry coincide: where the text ends, and the slice
-- Assumes nothing.
use Rattle.std.specs.Prelude.{◌≡◌, refl, List, [], ◌∷◌, ◌++◌, ℕ, ◌+◌, ◌-◌, ◌≤◌, ◌<◌, length, set, take, drop}
use Rattle.std.proofs.Common.{sym, ap, ◌∙◌, append_assoc, add-one, arith, length-append, length-drop, take-append-drop, length-take-le, take_at, drop-drop}
use Rattle.std.proofs.Math.Seq.{drop-append-add}
use Rattle.std.proofs.lemmas.List.{set_split}
use Rattle.fields.specs.Clauses.{Appended}

pub appended_none : (before : List ℕ) (at : ℕ) → at ≤ length before → Appended [] before at before at
appended_none before at h = record { ends = omega arith; within = h; holds = sym (take-append-drop at before) }

pub appended_byte : (byte : ℕ) (before : List ℕ) (at : ℕ) → at < length before
    → Appended (byte ∷ []) before at (set before at byte) (at + 1)
appended_byte byte before at h =
    record { ends = refl; within = omega arith; holds = rw (add-one at) (set_split before at byte h) }

pub appended_is : {text text' before after : List ℕ} {at end : ℕ} → text ≡ text'
    → Appended text before at after end → Appended text' before at after end
appended_is same w = rw same at w

module _ {text before after : List ℕ} {at end : ℕ} (w : Appended text before at after end) where
  front_length : length (take at before) ≡ at
  front_length = length-take-le at before (omega (arith, w.ends, w.within))

  written_length : length (take at before ++ text) ≡ end
  written_length = rw length-append (omega (arith, front_length, w.ends))

  -- up to its end the slice holds what stood before and the text
  appended_front : take end after ≡ take at before ++ text
  appended_front =
      rw (w.holds, ← append_assoc) (take_at (take at before ++ text) (drop end before) end written_length)

  -- past its end it is as lent
  appended_rest : (end' : ℕ) → end ≤ end' → drop end' after ≡ drop end' before
  appended_rest end' h =
      let sum : length (take at before ++ text) + (end' - end) ≡ end' = omega (arith, written_length) in
      let sum' : end + (end' - end) ≡ end' = omega arith in
      rw (w.holds, ← append_assoc)
      (ap (λ (n : ℕ). drop n ((take at before ++ text) ++ drop end before)) (sym sum)
      ∙ drop-append-add (take at before ++ text) (drop end before) (end' - end)
      ∙ drop-drop (end' - end) end before
      ∙ ap (λ (n : ℕ). drop n before) sum')

  pub appended_length : length after ≡ length before
  appended_length =
      rw (w.holds, length-append, length-append, length-drop)
      (omega (arith, front_length, w.ends, w.within))

pub appended_then : {t₁ t₂ a b c : List ℕ} {at e₁ e₂ : ℕ}
    → Appended t₁ a at b e₁ → Appended t₂ b e₁ c e₂ → Appended (t₁ ++ t₂) a at c e₂
appended_then {t₁} {t₂} {a} {b} {c} {at} {e₁} {e₂} x y =
    record {
      ends = rw length-append (omega (arith, x.ends, y.ends));
      within = omega (arith, y.within, appended_length x);
      holds =
          y.holds
          ∙ rw (appended_front x, appended_rest x e₂ (omega (arith, y.ends)))
          (append_assoc (take at a) t₁ (t₂ ++ drop e₂ a)
          ∙ ap (λ (t : List ℕ). take at a ++ t) (sym (append_assoc t₁ t₂ (drop e₂ a))));
    }

pub appended_settles : {text before a b : List ℕ} {at e f : ℕ}
    → Appended text before at a e → Appended text before at b f → (e ≡ f) × (a ≡ b)
appended_settles {text} {before} {a} {b} {at} {e} {f} x y =
    let same : e ≡ f = x.ends ∙ sym y.ends in
    (same, x.holds ∙ ap (λ (n : ℕ). take at before ++ (text ++ drop n before)) same ∙ sym y.holds)
