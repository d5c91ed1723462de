-- Text after text, and the room that is left: what the lines do.
--     Reached                        text is appended, and so many bytes have room after it
--     reached_none, reached_then     nothing is written yet; one text more, of at most so many bytes
-- Assumes nothing.
use Rattle.std.specs.Prelude.{List, [], ◌++◌, ℕ, ◌+◌, ◌≤◌, length}
use Rattle.std.proofs.Common.{arith}
use Rattle.fields.specs.Clauses.{Appended}
use Rattle.fields.specs.Appending.{appended_none, appended_then, appended_length}

-- The text is appended, and `rest` bytes have room after its end
pub record Reached (text : List ℕ) (rest : ℕ) (before : List ℕ) (at : ℕ) (after : List ℕ) (end : ℕ) : Type 0 where
  pub written : Appended text before at after end
  pub room : end + rest ≤ length after

pub reached_none : (rest : ℕ) (before : List ℕ) (at : ℕ) → at + rest ≤ length before → Reached [] rest before at before at
reached_none rest before at h = record { written = appended_none before at (omega arith); room = h }

pub reached_then : (most rest : ℕ) {room : ℕ} {t₁ t₂ a b c : List ℕ} {at e₁ e₂ : ℕ}
    → Reached t₁ room a at b e₁ → Appended t₂ b e₁ c e₂ → length t₂ ≤ most → most + rest ≤ room
    → Reached (t₁ ++ t₂) rest a at c e₂
reached_then most rest x y few enough =
    record { written = appended_then x.written y; room = omega (arith, x.room, y.ends, appended_length y) }
