-- What a search into rows promises to whoever calls it.
--     SameRows, rows_settle      any two answers that meet its contract coincide, the rows, the tally and the work slice included
--     rows_results_settle        and so do any two results, whose answers they are
--     rows_refused               a refused search leaves the rows as lent
--     SameContent, same_content  the rows hold what the three slices of the first entry hold, and all else is the same
-- Assumes nothing.
use Rattle.std.specs.Prelude.{◌≡◌, refl, List, [], ◌∷◌, map, ℕ, zero, suc, length, drop}
use Rattle.std.proofs.Common.{sym, ap, ◌∙◌}
use Rattle.std.proofs.lemmas.List.{map-append, length-map}
use Rattle.std.proofs.lemmas.Simd.{map-map}
use Rattle.model.specs.Words.{over}
use Rattle.model.specs.Given.{Poses, Query}
use Rattle.model.specs.Searches.{Search}
use Rattle.model.specs.Refusals.{Verdict, accepted, refused, Lent, poses_of, search_verdict}
use Rattle.model.specs.Answers as model
use Rattle.model.specs.Answers.{Found, found, search_of, answer, answering, written, slices, slices_with}
use Rattle.std.specs.Prelude.{Result}
use Rattle.poses.specs.declared.refusals.Refusal.{Refusal}
use Rattle.meeting.specs.declared.Found.{Found as FoundValue}
use Rattle.answers.specs.declared.Answer.{Answer}
use Rattle.answers.specs.Clauses.{answer_of, answer_once}
use Rattle.answering.specs.Answered.{Searched}
use Rattle.answering.specs.Promises.{answer_one_to_one}
use Rattle.placing.specs.declared.Place.{Place}
use Rattle.placing.specs.Rows.{onto}
use Rattle.places.specs.Clauses.{row_of, lent_rows, SearchedRows}

-- The results of two calls
pub record SameRows (a b : Answer) (rows : List Place) (tally work : List ℕ) (rows' : List Place) (tally' work' : List ℕ) : Type 0 where
  pub answers : a ≡ b
  pub rows_same : rows ≡ rows'
  pub tally_same : tally ≡ tally'
  pub work_same : work ≡ work'

pub rows_settle : {r : Poses → Query → Search} {l : Lent} {lent : List Place} {a b : Answer} {rows : List Place} {tally work : List ℕ}
    {rows' : List Place} {tally' work' : List ℕ}
    → SearchedRows r l a lent rows tally work → SearchedRows r l b lent rows' tally' work' → SameRows a b rows tally work rows' tally' work'
rows_settle {a = a} {b = b} x y =
    record {
      answers =
          answer_one_to_one a b (x.number_is ∙ sym y.number_is) (x.list_is ∙ sym y.list_is) (x.position_is ∙ sym y.position_is)
          (x.rows_are ∙ sym y.rows_are) (x.sorted_are ∙ sym y.sorted_are) (x.direct_are ∙ sym y.direct_are)
          (x.random_are ∙ sym y.random_are);
      rows_same = x.rows_hold ∙ sym y.rows_hold;
      tally_same = x.tally_is ∙ sym y.tally_is;
      work_same = x.work_is ∙ sym y.work_is;
    }

pub rows_results_settle : {r : Poses → Query → Search} {l : Lent} {lent : List Place} {a b : Result FoundValue Refusal}
    {rows : List Place} {tally work : List ℕ} {rows' : List Place} {tally' work' : List ℕ}
    → SearchedRows r l (answer_of a) lent rows tally work → SearchedRows r l (answer_of b) lent rows' tally' work'
    → (a ≡ b) × SameRows (answer_of a) (answer_of b) rows tally work rows' tally' work'
rows_results_settle {a = a} {b = b} x y = let same = rows_settle x y in (answer_once a b same.answers, same)

-- a refused search leaves the rows as lent
pub rows_refused : {r : Poses → Query → Search} {l : Lent} {lent : List Place} {a : Answer} {rows : List Place} {tally work : List ℕ}
    → SearchedRows r l a lent rows tally work
    → (number i p : ℕ) → search_verdict l ≡ refused number i p → rows ≡ lent
unfolding answer answering onto
rows_refused {r} {l} {lent} x number i p e = x.rows_hold ∙ rw e

-- ---- "a second entry fills such rows with the same content"
drop_map : (f : Place → ℕ) (k : ℕ) (l : List Place) → map f (drop k l) ≡ drop k (map f l)
drop_map f zero l = refl
drop_map f (suc k) [] = refl
drop_map f (suc k) (x ∷ l) = drop_map f k l

-- one number of each row, of rows written over rows
column : (f : Place → ℕ) (new lent : List Place) → map f (onto new lent) ≡ over (map f new) (map f lent)
unfolding onto over
column f new lent = map-append f new (drop (length new) lent) ∙ rw (drop_map f (length new) lent, length-map new f)

-- a slice of the shortlist, refused or not: one number of each of its places, written over the slice as lent
written_places : (v : Verdict) (f : Found) (g : model.Place → ℕ) (lent : List ℕ)
    → written v (map g f.shortlist) lent ≡ over (map g (answering v f).shortlist) lent
unfolding written answering over
written_places accepted f g lent = refl
written_places (refused x i p) f g lent = refl

-- What the two entries give back and leave
pub record SameContent (a b : Answer) (picks lows highs tally work : List ℕ) (rows : List Place) (tally' work' : List ℕ) : Type 0 where
  pub answers : a ≡ b
  pub items_same : map (λ (x : Place). x.item) rows ≡ picks
  pub lows_same : map (λ (x : Place). x.low) rows ≡ lows
  pub highs_same : map (λ (x : Place). x.high) rows ≡ highs
  pub tally_same : tally ≡ tally'
  pub work_same : work ≡ work'

pub same_content : {r : Poses → Query → Search} {m n rule k : ℕ} {weights items scores tally₀ work₀ : List ℕ} {lent : List Place} {a b : Answer}
    {picks lows highs tally work : List ℕ} {rows : List Place} {tally' work' : List ℕ}
    → Searched r (lent_rows m n rule k weights items scores lent tally₀ work₀) a picks lows highs tally work
    → SearchedRows r (lent_rows m n rule k weights items scores lent tally₀ work₀) b lent rows tally' work'
    → SameContent a b picks lows highs tally work rows tally' work'
unfolding slices slices_with answer
same_content {r} {m} {n} {rule} {k} {weights} {items} {scores} {tally₀} {work₀} {lent} {a} {b} x y =
    let l = lent_rows m n rule k weights items scores lent tally₀ work₀ in
    let f = found (poses_of l) k (search_of r l) in
    let best = (answer r l).shortlist in
    let one : (g : Place → ℕ) → map g (onto (map row_of best) lent) ≡ written (search_verdict l) (map (λ (p : model.Place). g (row_of p)) f.shortlist)
    (map g lent) = λ g.
    column g (map row_of best) lent ∙ ap (λ (s : List ℕ). over s (map g lent)) (map-map g row_of best)
    ∙ sym (written_places (search_verdict l) f (λ p. g (row_of p)) (map g lent)) in
    record {
      answers =
          answer_one_to_one a b (x.number_is ∙ sym y.number_is) (x.list_is ∙ sym y.list_is) (x.position_is ∙ sym y.position_is)
          (x.rows_are ∙ sym y.rows_are) (x.sorted_are ∙ sym y.sorted_are) (x.direct_are ∙ sym y.direct_are)
          (x.random_are ∙ sym y.random_are);
      items_same = ap (map (λ (x : Place). x.item)) y.rows_hold ∙ one (λ x. x.item) ∙ sym x.picks_are;
      lows_same = ap (map (λ (x : Place). x.low)) y.rows_hold ∙ one (λ x. x.low) ∙ sym x.lows_are;
      highs_same = ap (map (λ (x : Place). x.high)) y.rows_hold ∙ one (λ x. x.high) ∙ sym x.highs_are;
      tally_same = x.tally_is ∙ sym y.tally_is;
      work_same = x.work_is ∙ sym y.work_is;
    }
