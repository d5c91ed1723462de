-- The three slices of a shortlist, read off its places.
--     place_of                        a place: an item with its low and high after p rows
--     items_of, lows_of, highs_of    the items, lows and highs of the places of items l
-- Assumes nothing.
use Rattle.std.specs.Prelude.{◌≡◌, refl, List, [], ◌∷◌, map, ℕ}
use Rattle.std.proofs.Common.{ap, ◌∙◌}
use Rattle.model.specs.Searches.{Search}
use Rattle.model.specs.Answers.{Place}

map_map : {A B C : Type 0} (f : A → B) (g : B → C) (l : List A) → map g (map f l) ≡ map (λ x. g (f x)) l
map_map f g [] = refl
map_map {C = C} f g (x ∷ l) = ap (λ (k : List C). g (f x) ∷ k) (map_map f g l)

map_id : (l : List ℕ) → map (λ (x : ℕ). x) l ≡ l
map_id [] = refl
map_id (x ∷ l) = ap (λ (k : List ℕ). x ∷ k) (map_id l)

abbrev pub place_of : Search → ℕ → ℕ → Place
place_of r p d = record { item = d; low = r.low p d; high = r.high p d }

pub items_of : (r : Search) (p : ℕ) (l : List ℕ) → map (λ (x : Place). x.item) (map (place_of r p) l) ≡ l
items_of r p l = map_map (place_of r p) (λ (x : Place). x.item) l ∙ map_id l

pub lows_of : (r : Search) (p : ℕ) (l : List ℕ) → map (λ (x : Place). x.low) (map (place_of r p) l) ≡ map (r.low p) l
lows_of r p l = map_map (place_of r p) (λ (x : Place). x.low) l

pub highs_of : (r : Search) (p : ℕ) (l : List ℕ) → map (λ (x : Place). x.high) (map (place_of r p) l) ≡ map (r.high p) l
highs_of r p l = map_map (place_of r p) (λ (x : Place). x.high) l
