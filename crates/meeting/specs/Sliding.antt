-- A value slid into a slice that begins with the list l: the first k of the list with the value put in, over what was lent.
--     slid_size, slid_inserts        how many these are; the slice
--     slid_maps              the same where the slice holds a number for each item of the list
-- Assumes nothing.
use Rattle.std.specs.Prelude.{◌≡◌, List, ◌∷◌, ◌++◌, map, ℕ, suc, ◌+◌, ◌-◌, ◌≤◌, ◌<◌, min, ltb, length}
use Rattle.std.proofs.Common.{sym, ◌∙◌, append_assoc, arith, length-append, length-take, length-take-le, take_all, ltb-true, ltb-false}
use Rattle.std.proofs.Math.Path.{ap}
use Rattle.std.proofs.Math.ListN.{take, drop, length-drop}
use Rattle.std.proofs.lemmas.List.{length-map, drop-append-le}
use Rattle.std.proofs.Math.Seq.{take-append-le, take-append-add}
use Rattle.model.specs.Words.{over}
use Rattle.laws.specs.Tests.{by_cases}
use Rattle.laws.specs.Lists.{map_take, map_drop, map_join, over_beyond}
use Rattle.meeting.specs.Clauses.{slid}

module _ (l lent : List ℕ) (k j last x : ℕ) (within : j ≤ length l) (inside : j < k) (most : length l ≤ k) (is_last : last ≡ min (length l) (k - 1)) where
  -- what follows x among the first k
  followers : take (k - 1 - j) (drop j l) ≡ take (last - j) (drop j l)
  followers =
      by_cases (ltb (length l) k)
      (λ y.
      let free = ltb-true (length l) k y in
      take_all (k - 1 - j) (drop j l) (rw length-drop (omega arith)) ∙ sym (take_all (last - j) (drop j l) (rw length-drop (omega arith))))
      (λ z.
      let full = ltb-false (length l) k z in
      let same : k - 1 - j ≡ last - j = omega arith in
      rw same)

  pub first_with : take k (take j l ++ x ∷ drop j l) ≡ take j l ++ x ∷ take (last - j) (drop j l)
  first_with =
      let sum : length (take j l) + suc (k - 1 - j) ≡ k = omega (arith, length-take-le j l within) in
      ap (λ (c : ℕ). take c (take j l ++ x ∷ drop j l)) (sym sum)
      ∙ take-append-add (take j l) (x ∷ drop j l) (suc (k - 1 - j))
      ∙ ap (λ (r : List ℕ). take j l ++ x ∷ r) followers

  first_size : length (take j l ++ x ∷ take (last - j) (drop j l)) ≡ suc last
  first_size = rw (length-append, length-take-le j l within, length-take, length-drop) (omega arith)

  pub slid_size : length (take k (take j l ++ x ∷ drop j l)) ≡ suc last
  slid_size = ap length first_with ∙ first_size

  pub slid_inserts : slid j last x (over l lent) ≡ over (take k (take j l ++ x ∷ drop j l)) lent
  unfolding slid over
  slid_inserts =
      let rest = drop (length l) lent in
      let front : take j (l ++ rest) ≡ take j l = take-append-le j l rest within in
      let middle : take (last - j) (drop j (l ++ rest)) ≡ take (last - j) (drop j l) =
      ap (take (last - j)) (drop-append-le j l rest within)
      ∙ take-append-le (last - j) (drop j l) rest (rw length-drop (omega arith)) in
      let end : drop (suc last) (l ++ rest) ≡ drop (suc last) lent = over_beyond l lent (suc last) (omega arith) in
      rw (first_with, first_size, front, middle, end)
      (sym (append_assoc (take j l) (x ∷ take (last - j) (drop j l)) (drop (suc last) lent)))

-- a value put in at a seat, mapped
map_seat : (f : ℕ → ℕ) (k r d : ℕ) (l : List ℕ)
    → map f (take k (take r l ++ d ∷ drop r l)) ≡ take k (take r (map f l) ++ f d ∷ drop r (map f l))
map_seat f k r d l =
    map_take f k (take r l ++ d ∷ drop r l)
    ∙ ap (take k) (map_join f (take r l) (d ∷ drop r l) ∙ rw (map_take f r l, map_drop f r l))

pub slid_maps : (f : ℕ → ℕ) (l lent : List ℕ) (k j last d : ℕ) → j ≤ length l → j < k → length l ≤ k
    → last ≡ min (length l) (k - 1)
    → slid j last (f d) (over (map f l) lent) ≡ over (map f (take k (take j l ++ d ∷ drop j l))) lent
slid_maps f l lent k j last d within inside most is_last =
    let same : length (map f l) ≡ length l = length-map l f in
    rw (map_seat f k j d l)
    (slid_inserts (map f l) lent k j last (f d) (omega arith) inside (omega arith) (omega arith))
