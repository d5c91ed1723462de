-- Rows of places, made of the shortlist's columns and written over the rows that are lent.
--     place_at            the place of a row: its item, low and high
--     onto               rows written from the start of the lent ones; rows beyond stay as lent
--     onto_none          none written
--     onto_length        rows written over keep their number
--     onto_more          one row more
-- Assumes nothing.
use Rattle.std.specs.Prelude.{◌≡◌, refl, List, ◌++◌, ℕ, suc, ◌+◌, ◌≤◌, ◌<◌, length, get_or, set, drop}
use Rattle.std.proofs.Common.{◌∙◌, append_assoc, arith, add-one, length-append, length-drop, drop-cons}
use Rattle.std.proofs.lemmas.List.{set_at}
use Rattle.model.specs.Words.{row}
use Rattle.laws.specs.Lists.{row_length}
use Rattle.placing.specs.declared.Place.{Place}

-- the place of row i, from the shortlist's columns
abbrev pub place_at : List ℕ → List ℕ → List ℕ → ℕ → Place
place_at picks lows highs i = record { item = get_or picks i 0; low = get_or lows i 0; high = get_or highs i 0 }

-- a row with nothing in it
pub nowhere : Place
nowhere = record { item = 0; low = 0; high = 0 }

-- rows written from the start of the lent ones: rows beyond them stay as lent
unfoldable pub onto : List Place → List Place → List Place
onto new lent = new ++ drop (length new) lent

-- none written
pub onto_none : (f : ℕ → Place) (lent : List Place) → onto (row f 0) lent ≡ lent
unfolding onto row
onto_none f lent = refl

-- rows written over keep their number
pub onto_length : (new lent : List Place) → length new ≤ length lent → length (onto new lent) ≡ length lent
unfolding onto
onto_length new lent h = rw (length-append, length-drop) (omega arith)

-- one row more
pub onto_more : (f : ℕ → Place) (i : ℕ) (lent : List Place) → i < length lent → set (onto (row f i) lent) i (f i) ≡ onto (row f (i + 1)) lent
unfolding onto row
onto_more f i lent h =
    rw (add-one, row_length f i, row_length f (suc i), drop-cons lent i nowhere h)
    (set_at (row f i) (get_or lent i nowhere) (drop (suc i) lent) (f i) i (row_length f i) ∙ rw append_assoc)
