-- From a search into columns to what it owes in rows.
--     lesser_most, lesser_room       the columns are lent with at most 1,024 places, and with at most as many as there are rows
--     same_shape                     the tests 1 to 6 do not tell these from slices of as many places as there are rows
--     kept_size                      an accepted search keeps k places
--     row_is                         a row of as many values as a list has, place by place its own
--     columned                       what a search owes once its columns are written into rows
--     refused_as_lent                a refused search owes no row
-- Assumes nothing.
use Rattle.std.specs.Prelude.{◌≡◌, refl, Bool, true, false, ◌||◌, List, [], ◌∷◌, ◌++◌, map, ℕ, zero, suc, ◌*◌, ◌≤◌, ◌<◌, eqb, ltb, length, get_or, take, drop}
use Rattle.std.proofs.Math.Path.{sym, ap}
use Rattle.std.proofs.Common.{subst, ◌∙◌, not-suc-le-zero, le_trans, arith, ext_get_or, get_or-take, length-take-le, ltb-true, ltb-false, le-ltb, eqb-true, eq-eqb, ne_eqb}
use Rattle.std.proofs.lemmas.Simd.{map-map}
use Rattle.std.proofs.lemmas.List.{length-map}
use Rattle.std.proofs.Math.Seq.{take-append_seam}
use Rattle.model.specs.Words.{row}
use Rattle.model.specs.Given.{Poses, Query}
use Rattle.model.specs.Searches.{Search, kept, rows}
use Rattle.model.specs.Refusals.{Verdict, accepted, refused, ◌when◌, ◌then◌, Lent, poses_of, query_of, wrong_size, wrong_k, wrong_rule, wrong_weights, search_shape, search_verdict, in_lists}
use Rattle.model.specs.Answers as model
use Rattle.model.specs.Answers.{answer, answering, written, work_after, slices, slices_with, found_after, search_of}
use Rattle.laws.specs.Tests.{by_cases}
use Rattle.laws.specs.Verdicts.{by_verdict, accepted≢refused}
use Rattle.laws.specs.Lists.{row_length, row_at, over_at, over_map_at}
use Rattle.laws.specs.Accepted.{Valid, sized}
use Rattle.demands.specs.Promised.{promised}
use Rattle.admission.specs.Clauses.{lent_with, shape_of, shape_is}
use Rattle.admission.specs.Shapes.{k_passes}
use Rattle.running.specs.Clauses.{search_at}
use Rattle.answers.specs.declared.Answer.{Answer}
use Rattle.answering.specs.Answered.{Searched}
use Rattle.answering.specs.Promises.{accepted_is_zero, accepted_call, accepted_finds}
use Rattle.answering.specs.Shortlists.{place_of}
use Rattle.placing.specs.declared.Place.{Place}
use Rattle.placing.specs.Rows.{place_at, nowhere, onto, onto_none}
use Rattle.placing.specs.Counts.{enough_of, lesser_of}
use Rattle.places.specs.Clauses.{row_of, lent_rows, SearchedRows, Columned}

-- the columns are lent with at most 1,024 places, and with at most as many as there are rows
pub lesser_most : (room : ℕ) → lesser_of room ≤ 1024
lesser_most room =
    by_cases (ltb room 1024) (λ (y : ltb room 1024 ≡ true). rw y (omega (arith, ltb-true room 1024 y)))
    (λ (z : ltb room 1024 ≡ false). rw z (omega arith))

pub lesser_room : (room : ℕ) → lesser_of room ≤ room
lesser_room room =
    by_cases (ltb room 1024) (λ (y : ltb room 1024 ≡ true). rw y (omega arith))
    (λ (z : ltb room 1024 ≡ false). rw z (omega (arith, ltb-false room 1024 z)))

-- so many places there are in columns of 1,024
pub lesser_fits : (part room : ℕ) (l : List ℕ) → part ≡ lesser_of room → length l ≡ 1024 → part ≤ length l
lesser_fits part room l e long = rw (e, long) (lesser_most room)

-- for a k of at most 1,024 it is the same whether the rows or the columns are too few
same_few : (room k : ℕ) → k ≤ 1024 → ltb (lesser_of room) k ≡ ltb room k
same_few room k h =
    by_cases (ltb room 1024) (λ (y : ltb room 1024 ≡ true). rw y)
    (λ (z : ltb room 1024 ≡ false). rw (z, le-ltb 1024 k h) (sym (le-ltb room k (omega (arith, ltb-false room 1024 z)))))

-- one test after another, by cases on the first
when_then : (x : ℕ) (b : Bool) (v w : Verdict) → (b ≡ false → v ≡ w) → (x when b then v) ≡ (x when b then w)
when_then x true v w e = refl
when_then x false v w e = e refl

-- the tests 1 to 6 do not tell the columns from slices of as many places as there are rows
pub same_shape : (m n rule k : ℕ) (weights : List ℕ) (items scores room tally work : ℕ)
    → shape_of m n rule k weights items scores (lesser_of room) (lesser_of room) (lesser_of room) tally work ≡ shape_of m n rule k weights items scores
    room room room tally work
unfolding shape_of
same_shape m n rule k weights items scores room tally work =
    when_then 1 (wrong_size m n) _ _ (λ sizes. when_then 2 (wrong_k k n) _ _ (λ right.
    let h : k ≤ 1024 = omega (arith, (sized m n sizes).n_most, (k_passes k n right).1) in
    ap (λ (b : Bool). 3 when wrong_rule rule then 4 when wrong_weights m weights then 5 when (ltb items (m * n) || ltb scores (m * n)) then 6 when
    (b || b || b || ltb tally (m * n) || ltb work (m * n)))
    (same_few room k h)))

-- an accepted search keeps k places
pub kept_size : (which : ℕ) (s : Poses) (q : Query) (k : ℕ) → Valid s → 1 ≤ k → k ≤ s.n
    → length (kept s k (search_at which s q) (rows s k (search_at which s q))) ≡ k
kept_size zero s q k v least most = (promised s v q k least most).ta.size
kept_size (suc zero) s q k v least most = (promised s v q k least most).bpa.size
kept_size (suc (suc zero)) s q k v least most = (promised s v q k least most).bpa2.size
kept_size (suc (suc (suc which))) s q k v least most = (promised s v q k least most).nra.size

-- a row of as many values as a list has, each the list's own
row_is : (f : ℕ → Place) (l : List Place) (k : ℕ) → length l ≡ k → ((j : ℕ) → j < k → f j ≡ get_or l j nowhere) → row f k ≡ l
row_is f l k e h =
    ext_get_or nowhere (row f k) l (row_length f k ∙ sym e) (λ j within.
    let below : j < k = omega (arith, row_length f k) in
    row_at f k j nowhere below ∙ h j below)

map_place : (g : ℕ → Place) (l : List ℕ) (j : ℕ) → j < length l → get_or (map g l) j nowhere ≡ g (get_or l j 0)
map_place g [] j h = absurd (not-suc-le-zero h)
map_place g (x ∷ l) zero h = refl
map_place g (x ∷ l) (suc j) h = map_place g l j (omega arith)

-- an accepted search's shortlist as rows
shortlist_rows : (r : Poses → Query → Search) (l : Lent) → search_verdict l ≡ accepted
    → map row_of (answer r l).shortlist ≡ map (λ d. row_of
    (place_of (r (poses_of l) (query_of l)) (rows (poses_of l) l.k (r (poses_of l) (query_of l))) d))
    (kept (poses_of l) l.k (r (poses_of l) (query_of l)) (rows (poses_of l) l.k (r (poses_of l) (query_of l))))
unfolding answer answering model.found found_after search_of
shortlist_rows r l e = rw e (map-map row_of (place_of (r (poses_of l) (query_of l)) (rows (poses_of l) l.k (r (poses_of l) (query_of l))))
    (kept (poses_of l) l.k (r (poses_of l) (query_of l)) (rows (poses_of l) l.k (r (poses_of l) (query_of l)))))

refused_rows : (r : Poses → Query → Search) (l : Lent) (x i p : ℕ) → search_verdict l ≡ refused x i p → map row_of (answer r l).shortlist ≡ []
unfolding answer answering
refused_rows r l x i p e = rw e

-- a search into the first places of longer columns, read off the columns
pub searched_parts : (r : Poses → Query → Search) (m n rule k : ℕ) (weights items scores p₀ a₀ b₀ tally₀ work₀ : List ℕ) (ans : Answer)
    (p a b tally work : List ℕ) (part whole : ℕ)
    → part ≡ whole → length p ≡ part → length a ≡ part → length b ≡ part
    → Searched r (lent_with m n rule k weights items scores (take part p₀) (take part a₀) (take part b₀) tally₀ work₀) ans p a b tally work
    → Searched r (lent_with m n rule k weights items scores (take whole p₀) (take whole a₀) (take whole b₀) tally₀ work₀) ans
    (take whole (p ++ drop part p₀)) (take whole (a ++ drop part a₀)) (take whole (b ++ drop part b₀)) tally work
searched_parts r m n rule k weights items scores p₀ a₀ b₀ tally₀ work₀ ans p a b tally work part whole same lp la lb found =
    let back : (l s : List ℕ) → length l ≡ part → l ≡ take part (l ++ s) = λ l s e. rw (← e) (sym (take-append_seam l s)) in
    let parts : Searched r (lent_with m n rule k weights items scores (take part p₀) (take part a₀) (take part b₀) tally₀ work₀) ans
    (take part (p ++ drop part p₀)) (take part (a ++ drop part a₀)) (take part (b ++ drop part b₀)) tally work
    = rw (← back p (drop part p₀) lp, ← back a (drop part a₀) la, ← back b (drop part b₀) lb) found in
    subst (λ (w : ℕ). Searched r (lent_with m n rule k weights items scores (take w p₀) (take w a₀) (take w b₀) tally₀ work₀) ans
    (take w (p ++ drop part p₀)) (take w (a ++ drop part a₀)) (take w (b ++ drop part b₀)) tally work) same parts

-- A search into columns of 1,024 places, of which as many are lent as there are rows
module _ (which m n rule k room : ℕ) (weights items scores tally₀ work₀ : List ℕ) (p₀ a₀ b₀ : List ℕ) (ans : Answer) (picks lows highs tally work : List ℕ)
    (p_long : length p₀ ≡ 1024) (a_long : length a₀ ≡ 1024) (b_long : length b₀ ≡ 1024)
    (found : Searched (search_at which) (lent_with m n rule k weights items scores (take (lesser_of room) p₀) (take (lesser_of room) a₀)
    (take (lesser_of room) b₀) tally₀ work₀) ans (take (lesser_of room) picks) (take (lesser_of room) lows) (take (lesser_of room) highs) tally work)
  where
    abbrev part : ℕ
    part = lesser_of room

    -- what the search is lent
    abbrev l : Lent
    l = lent_with m n rule k weights items scores (take part p₀) (take part a₀) (take part b₀) tally₀ work₀

    abbrev by : Search
    by = search_at which (poses_of l) (query_of l)

    abbrev last : ℕ
    last = rows (poses_of l) k by

    abbrev best : List ℕ
    best = kept (poses_of l) k by last

    part_length : (s : List ℕ) → length s ≡ 1024 → length (take part s) ≡ part
    part_length s e = length-take-le part s (rw e (lesser_most room))

    -- accepted: k is at most the number of rows, and the first k places of the columns are the shortlist
    k_room : ans.number ≡ 0 → k ≤ part
    k_room none = omega (arith, (accepted_call found none).shape.picks_long, part_length p₀ p_long)

    best_size : ans.number ≡ 0 → length best ≡ k
    unfolding poses_of
    best_size none = kept_size which (poses_of l) (query_of l) k (accepted_call found none).lists_valid (accepted_call found none).k_least
        (accepted_call found none).k_most

    place_is : ans.number ≡ 0 → (j : ℕ) → j < k → place_at picks lows highs j ≡ row_of (place_of by last (get_or best j 0))
    place_is none j h =
        let f = (accepted_finds found none).slices_are.shortlist in
        let size = best_size none in
        let fits = k_room none in
        let item : get_or picks j 0 ≡ get_or best j 0
        = sym (get_or-take part picks j 0 (omega arith)) ∙ ap (λ (s : List ℕ). get_or s j 0) f.picks_are
        ∙ over_at best (take part p₀) j 0 (omega arith) in
        let low : get_or lows j 0 ≡ by.low last (get_or best j 0)
        = sym (get_or-take part lows j 0 (omega arith)) ∙ ap (λ (s : List ℕ). get_or s j 0) f.lows_are
        ∙ over_map_at (by.low last) best (take part a₀) j (omega arith) in
        let high : get_or highs j 0 ≡ by.high last (get_or best j 0)
        = sym (get_or-take part highs j 0 (omega arith)) ∙ ap (λ (s : List ℕ). get_or s j 0) f.highs_are
        ∙ over_map_at (by.high last) best (take part b₀) j (omega arith) in
        λ i. record { item = item i; low = low i; high = high i }

    shortlist_is : row (place_at picks lows highs) (enough_of ans.number k) ≡ map row_of (answer (search_at which) l).shortlist
    unfolding row
    shortlist_is =
        by_verdict (search_verdict l)
        (λ (e : search_verdict l ≡ accepted).
        let none : ans.number ≡ 0 = (accepted_is_zero found).1 e in
        let size = best_size none in
        rw (eq-eqb ans.number 0 none)
        (row_is (place_at picks lows highs) (map (λ d. row_of (place_of by last d)) best) k (length-map best _ ∙ size)
        (λ j h. place_is none j h ∙ sym (map_place (λ d. row_of (place_of by last d)) best j (omega arith)))
        ∙ sym (shortlist_rows (search_at which) l e)))
        (λ x i p (e : search_verdict l ≡ refused x i p).
        rw (ne_eqb ans.number 0 (λ none. accepted≢refused (sym ((accepted_is_zero found).0 none) ∙ e)))
        (sym (refused_rows (search_at which) l x i p e)))

    -- of the rows there are, as many are written as the shortlist has, and never more than the columns hold
    count_part : enough_of ans.number k ≤ part
    count_part =
        by_cases (eqb ans.number 0) (λ (y : eqb ans.number 0 ≡ true). rw y (k_room (eqb-true ans.number 0 y)))
        (λ (z : eqb ans.number 0 ≡ false). rw z (omega arith))

    -- the same search, lent as many places as there are rows
    module _ (lent : List Place) (size : length lent ≡ room) where
      abbrev l' : Lent
      l' = lent_rows m n rule k weights items scores lent tally₀ work₀

      same_tests : search_shape l ≡ search_shape l'
      same_tests =
          shape_is l
          ∙ rw (
            part_length p₀ p_long,
            part_length a₀ a_long,
            part_length b₀ b_long,
            length-map lent (λ (x : Place). x.item),
            length-map lent
                (λ (x : Place). x.low),
            length-map lent (λ (x : Place). x.high),
            size,
          )
          (same_shape m n rule k weights (length items) (length scores) room (length tally₀) (length work₀))
          ∙ sym (shape_is l')

      same_verdict : search_verdict l ≡ search_verdict l'
      unfolding search_verdict poses_of
      same_verdict = ap (λ (v : Verdict). v then in_lists (poses_of l)) same_tests

      same_answer_equal : answer (search_at which) l ≡ answer (search_at which) l'
      unfolding answer search_of poses_of query_of
      same_answer_equal = ap (λ (v : Verdict). answering v (model.found (poses_of l) k by)) same_verdict

      same_tally : (slices (search_at which) l).tally ≡ (slices (search_at which) l').tally
      unfolding slices slices_with search_of poses_of query_of
      same_tally = ap (λ (v : Verdict). written v (model.found (poses_of l) k by).tally tally₀) same_verdict

      same_work : (slices (search_at which) l).work ≡ (slices (search_at which) l').work
      unfolding slices slices_with poses_of
      same_work = ap (λ (v : Verdict). work_after v (poses_of l) work₀) same_tests

      owes : SearchedRows (search_at which) l' ans lent (onto (row (place_at picks lows highs) (enough_of ans.number k)) lent) tally work
      owes =
          let same = same_answer_equal in
          record {
            number_is = found.number_is ∙ ap (λ (x : model.Answer). x.number) same;
            list_is = found.list_is ∙ ap (λ (x : model.Answer). x.list) same;
            position_is = found.position_is ∙ ap (λ (x : model.Answer). x.position) same;
            rows_are = found.rows_are ∙ ap (λ (x : model.Answer). x.rows) same;
            sorted_are = found.sorted_are ∙ ap (λ (x : model.Answer). x.sorted) same;
            direct_are = found.direct_are ∙ ap (λ (x : model.Answer). x.direct) same;
            random_are = found.random_are ∙ ap (λ (x : model.Answer). x.random) same;
            rows_hold = ap (λ (x : List Place). onto x lent) (shortlist_is ∙ ap (λ (x : model.Answer). map row_of x.shortlist) same);
            tally_is = found.tally_is ∙ same_tally;
            work_is = found.work_is ∙ same_work;
          }

    pub columned : (count : ℕ) → count ≡ enough_of ans.number k
        → Columned which m n rule k room weights items scores tally₀ work₀ ans count picks lows highs tally work
    columned count e =
        record {
          count_most = rw e (le_trans count_part (lesser_most room));
          count_room = rw e (le_trans count_part (lesser_room room));
          owed = λ lent size. rw e (owes lent size);
        }

    -- a refused search owes no row: the rows are as lent
    pub refused_as_lent : (ans.number ≡ 0 → ⊥) → (lent : List Place) → length lent ≡ room
        → SearchedRows (search_at which) (lent_rows m n rule k weights items scores lent tally₀ work₀) ans lent lent tally work
    refused_as_lent some lent size =
        let none : 0 ≡ enough_of ans.number k = rw (ne_eqb ans.number 0 some) in
        subst (λ (x : List Place). SearchedRows (search_at which) (lent_rows m n rule k weights items scores lent tally₀ work₀) ans lent x tally work)
        (onto_none (place_at picks lows highs) lent) ((columned 0 none).owed lent size)
