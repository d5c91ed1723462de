-- The line of an answer, written.
--     found_asked                        the room that a search's line asks, of that which an answer's asks
--     found_written, refusal_written     the line by its two ways
--     refused_short                      a refusal's line is no longer than its room
-- Assumes nothing.
use Rattle.std.specs.Prelude.{◌≡◌, List, ℕ, ◌+◌, ◌*◌, ◌^◌, ◌≤◌, ◌<◌, length}
use Rattle.std.proofs.Common.{arith, eq-eqb, ne_eqb}
use Rattle.model.specs.Program.{line, refused_line}
use Rattle.model.specs.Answers.{Place}
use Rattle.answers.specs.declared.Answer.{Answer}
use Rattle.fields.specs.Clauses.{Appended}
use Rattle.listing.specs.Clauses.{LineRoom}
use Rattle.text.specs.Names.{name_at, name_most}
use Rattle.text.specs.Lines.{refused_most}
use Rattle.wording.specs.Clauses.{line_room, answer_text, AnswerRoom, AnswerWritten}

module _ (which k : ℕ) {a : Answer} {picks lows highs out : List ℕ} {at : ℕ} where
  pub found_asked : a.number ≡ 0 → AnswerRoom a k picks lows highs out at
      → LineRoom (length (name_at which) + 45 + 28 * k) k picks lows highs out at
  found_asked none asked =
      record {
        picks_long = asked.picks_long none;
        lows_long = asked.lows_long none;
        highs_long = asked.highs_long none;
        room = omega (arith, asked.few none, asked.room, name_most which);
      }

module _ {which k : ℕ} {a : Answer} {places : List Place} {picks lows highs before after : List ℕ} {at end : ℕ} where
  pub found_written : a.number ≡ 0 → AnswerRoom a k picks lows highs before at
      → Appended (line (name_at which) a.rows a.sorted.0 a.direct.0 a.random.0 places) before at after end
      → end ≤ at + (length (name_at which) + 45 + 28 * k)
      → AnswerWritten which a places before at after end
  unfolding answer_text
  found_written none asked w short =
      record { appended = rw (eq-eqb a.number 0 none) w; short = omega (arith, asked.few none, name_most which) }

module _ {which : ℕ} {a : Answer} {places : List Place} {before after : List ℕ} {at end : ℕ} where
  pub refusal_written : (a.number ≡ 0 → ⊥) → Appended (refused_line a.number a.list a.position) before at after end
      → end ≤ at + 41
      → AnswerWritten which a places before at after end
  unfolding answer_text
  refusal_written some w short = record { appended = rw (ne_eqb a.number 0 some) w; short = omega arith }

pub refused_short : (a : Answer) → a.number < 2 ^ 32 → a.list < 2 ^ 32 → a.position < 2 ^ 32
    → length (refused_line a.number a.list a.position) ≤ line_room
refused_short a number_fits list_fits position_fits =
    omega (arith, refused_most a.number a.list a.position number_fits list_fits position_fits)
