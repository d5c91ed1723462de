-- The text of a shortlist's places, and the shortlist that three slices hold.
--     spaced_narrow, coloned_wide    how long the text of an item is at most, and of a low or high
--     place_text              "item:low:high" of one place
--     place_most             it has at most 28 bytes
--     places_none, places_next       the text of no places; of one more
--     places_most            k places have at most 28 bytes each
--     places_are             three slices that hold a shortlist: their places are that shortlist
-- Assumes nothing.
use Rattle.std.specs.Prelude.{◌≡◌, refl, List, [], ◌∷◌, ◌++◌, map, ℕ, zero, suc, ◌+◌, ◌*◌, ◌^◌, ◌≤◌, ◌<◌, length, get_or}
use Rattle.std.proofs.Common.{sym, ap, ◌∙◌, append_assoc, append-nil, add-one, arith, length-append, ext_get_or}
use Rattle.std.proofs.lemmas.List.{length-map}
use Rattle.std.proofs.Math.ListN.{get_or-map}
use Rattle.model.specs.Words.{row, over}
use Rattle.model.specs.Answers.{Place}
use Rattle.model.specs.Program.{decimal, spaced, coloned, places_text}
use Rattle.laws.specs.Lists.{row_length, row_at, over_at}
use Rattle.fields.specs.Numbers.{decimal_most, decimal_wide}
use Rattle.listing.specs.Clauses.{places_at}

-- a number of 16 bits has at most five digits, one of 32 bits at most ten
pub spaced_narrow : (x : ℕ) → x < 2 ^ 16 → length (spaced x) ≤ 6
unfolding spaced
spaced_narrow x h =
    let few : length (decimal x) ≤ 5 = decimal_most 5 x (omega arith) (omega arith) in
    omega arith

pub coloned_wide : (x : ℕ) → x < 2 ^ 32 → length (coloned x) ≤ 11
unfolding coloned
coloned_wide x h = omega (arith, decimal_wide x h)

-- "item:low:high" of one place, after a space
abbrev pub place_text : ℕ → ℕ → ℕ → List ℕ
place_text item low high = spaced item ++ coloned low ++ coloned high

pub place_most : (item low high : ℕ) → item < 2 ^ 16 → low < 2 ^ 32 → high < 2 ^ 32 → length (place_text item low high) ≤ 28
place_most item low high a b c =
    rw (length-append, length-append) (omega (arith, spaced_narrow item a, coloned_wide low b, coloned_wide high c))

pub places_none : (picks lows highs : List ℕ) → places_text (places_at picks lows highs 0) ≡ []
unfolding places_text places_at row
places_none picks lows highs = refl

text_more : (l : List Place) (x : Place)
    → places_text (l ++ (x ∷ [])) ≡ places_text l ++ place_text x.item x.low x.high
unfolding places_text
text_more [] x = append-nil (place_text x.item x.low x.high)
text_more (y ∷ l) x =
    let first = place_text y.item y.low y.high in
    let last = place_text x.item x.low x.high in
    rw (text_more l x) (sym (append_assoc first (places_text l) last))

pub places_next : (picks lows highs : List ℕ) (i : ℕ)
    → places_text (places_at picks lows highs i) ++ place_text (get_or picks i 0) (get_or lows i 0) (get_or highs i 0)
    ≡ places_text (places_at picks lows highs (i + 1))
unfolding places_at row
places_next picks lows highs i =
    let last : Place = record { item = get_or picks i 0; low = get_or lows i 0; high = get_or highs i 0 } in
    rw (add-one i) (sym (text_more (places_at picks lows highs i) last))

-- k places have at most 28 bytes each
pub places_most : (picks lows highs : List ℕ) (k : ℕ) → ((i : ℕ) → get_or picks i 0 < 2 ^ 16)
    → ((i : ℕ) → get_or lows i 0 < 2 ^ 32) → ((i : ℕ) → get_or highs i 0 < 2 ^ 32)
    → length (places_text (places_at picks lows highs k)) ≤ 28 * k
places_most picks lows highs zero a b c = rw (places_none picks lows highs) (omega arith)
places_most picks lows highs (suc k) a b c =
    let one = place_most (get_or picks k 0) (get_or lows k 0) (get_or highs k 0) (a k) (b k) (c k) in
    rw (← (add-one k), ← (places_next picks lows highs k), length-append)
    (omega (arith, places_most picks lows highs k a b c))

-- a field of a place of a shortlist that a slice holds
field_at : (f : Place → ℕ) (l : List Place) (lent slice : List ℕ) (x : Place) (i : ℕ) → f x ≡ 0 → i < length l
    → slice ≡ over (map f l) lent → get_or slice i 0 ≡ f (get_or l i x)
field_at f l lent slice x i z h e =
    rw e
    (over_at (map f l) lent i 0 (rw length-map h)
    ∙ ap (λ (d : ℕ). get_or (map f l) i d) (sym z)
    ∙ get_or-map f l i x)

pub places_are : (l : List Place) (k : ℕ) (picks₀ lows₀ highs₀ : List ℕ) {picks lows highs : List ℕ} → length l ≡ k
    → picks ≡ over (map (λ (x : Place). x.item) l) picks₀
    → lows ≡ over (map (λ (x : Place). x.low) l) lows₀
    → highs ≡ over (map (λ (x : Place). x.high) l) highs₀
    → places_at picks lows highs k ≡ l
unfolding places_at
places_are l k picks₀ lows₀ highs₀ {picks} {lows} {highs} size p q r =
    let none : Place = record { item = 0; low = 0; high = 0 } in
    let at : ℕ → Place = λ i. record { item = get_or picks i 0; low = get_or lows i 0; high = get_or highs i 0 } in
    ext_get_or none (row at k) l (row_length at k ∙ sym size)
    (λ i h.
    let h' : i < k = rw row_length at h in
    let h'' : i < length l = omega arith in
    let e = field_at (λ (x : Place). x.item) l picks₀ picks none i refl h'' p in
    let f = field_at (λ (x : Place). x.low) l lows₀ lows none i refl h'' q in
    let g = field_at (λ (x : Place). x.high) l highs₀ highs none i refl h'' r in
    row_at at k i none h' ∙ (λ j. record { item = e j; low = f j; high = g j }))
