-- What the code reads off the slices is what the definitions say of NRA's rows.
--     sound, sought              what reading asks; what the search for the row asks
--     met_room, rank_asks        what `rank` asks of the marks and the items met
--     top_least, held_full       the k-th mark is not 0 when NRA stops, so k items are held
--     low_is, high_is, met_is    an item's low and high, and whether it is met
--     held_same, halts_same      the first k and the test, of equal lows, highs and met items
--     kept_is, stops_is          NRA's first k and its test, as the code has them
--     finishes                   the run of NRA, from the row found and the shortlist and the tally written there
-- Assumes nothing.
use mathlib.Core.Path.{◌≡◌, refl, sym, ap, ◌∙◌}
use mathlib.Core.Bool.{Bool, true, false, cond, ◌&&◌, ◌||◌, or-true, true≢false}
use mathlib.Core.List.{List, [], ◌∷◌, ◌++◌, map}
use Prim.Native.Nat.{ℕ, ◌+◌, ◌-◌, ◌*◌, ◌≤◌, ◌<◌}
use native.Mathlib.Numerals.{add-one}
use native.Mathlib.Omega.{arith}
use lib.Dec.{eqb, leb, ltb}
use lib.ListN.{length, get_or, take, drop, length-map}
use lib.Seq.{length-take-le}
use borrow.Author.Tests.{eq-eqb, leb-true, leb-false, le-leb, ltb-true, ltb-false, lt-ltb}
use Rattle.model.specs.Words.{last_of, table, over}
use Rattle.model.specs.Given.{Poses, Query, item, score, place, overall}
use Rattle.model.specs.Accesses.{rows_nra, met}
use Rattle.model.specs.Searches.{ahead, among, read_or, low_nra, high_nra, NRA, kept, stops}
use Rattle.laws.specs.Tests.{by_cases, some_hit, some_same, every_same}
use Rattle.laws.specs.Passing.{passing_all}
use Rattle.laws.specs.Lookups.{once}
use Rattle.laws.specs.Overall.{joined_same}
use Rattle.laws.specs.Ranking.{ranked_same}
use Rattle.laws.specs.Kept.{kept_item}
use Rattle.poses.specs.Rules.{rule_number}
use Rattle.poses.specs.Sets.{set_of}
use Rattle.meeting.specs.declared.Reading.{Reading}
use Rattle.meeting.specs.Clauses.{View, view_of, query_of, bound_of, Readable, Room, read_at, unread}
use Rattle.meeting.specs.Shortlist.{Spaced}
use Rattle.bounded.specs.Depth.{tally_deep, read_deep, met_deep}
use Rattle.halting.specs.Bar.{held, halts, bar_full}
use Rattle.bounded.specs.Stops.{kept_held, stops_halts, rows_are}
use Rattle.halting.specs.Clauses.{met_of, halts_of, Sound, legible, mark_of, Marked, Listed, reach_of}
use Rattle.halting.specs.Marks.{reach_is, halts_few}
use Rattle.halting.specs.Gathering.{listed_most, listed_front}
use Rattle.leading.specs.Clauses.{Leading}
use Rattle.raising.specs.Floor.{under_floor, led_few}
use Rattle.blocking.specs.Clauses.{Kth, kth_of}
use Rattle.ending.specs.Clauses.{Sought, Halted}
use Rattle.ranking.specs.Clauses.{held_of, HeldIn}
use Rattle.bounded.specs.Clauses.{Finished}
use Rattle.bounded.proofs.Lent.{tops_gone}

-- ---- equal lows, highs and met items
module _ (n k : ℕ) (low high low' high' : ℕ → ℕ) (met met' : ℕ → Bool)
    (same_low : (d : ℕ) → d < n → low d ≡ low' d) (same_high : (d : ℕ) → d < n → high d ≡ high' d) (same_met : (d : ℕ) → d < n → met d ≡ met' d) where
  pub held_same : held n k low high met ≡ held n k low' high' met'
  unfolding held ahead
  held_same =
      ap (take k)
      (ranked_same (ahead low high) (ahead low' high') met met' n same_met
      (λ d e hd he _ _. rw (same_low d hd, same_low e he, same_high d hd, same_high e he)))

  -- the last of them is an item
  last_below : (x : ℕ) (l : List ℕ) → x < n → ((d : ℕ) → among d l ≡ true → d < n) → last_of x l < n
  unfolding last_of among
  last_below x [] h all = h
  last_below x (e ∷ l) h all = last_below e l (all e (rw (eq-eqb e e refl))) (λ d y. all d (rw y (or-true (eqb d e))))

  pub halts_same : 1 ≤ n → halts n k low high met ≡ halts n k low' high' met'
  unfolding halts
  halts_same some =
      let l = held n k low high met in
      let small : (d : ℕ) → among d l ≡ true → d < n = λ d y. unfold held in (kept_item (ahead low high) met n k d y).0 in
      let last = same_low (last_of 0 l) (last_below 0 l some small) in
      rw (← held_same)
      (ap (λ (b : Bool). leb k (length l) && b)
      (every_same (λ d. among d l || leb (high d) (low (last_of 0 l))) (λ d. among d l || leb (high' d) (low' (last_of 0 l))) n
      (λ d hd. rw (last, same_high d hd))))

-- ---- lists over what was lent
map_same : (f g : ℕ → ℕ) (l : List ℕ) → ((d : ℕ) → among d l ≡ true → f d ≡ g d) → map f l ≡ map g l
unfolding among
map_same f g [] h = refl
map_same f g (e ∷ l) h = rw (h e (rw (eq-eqb e e refl)), map_same f g l (λ d y. h d (rw y (or-true (eqb d e)))))

-- ---- what is read
module _ (reading : Reading) (w : Readable (set_of reading.set) (query_of reading) reading.places.now) where
  abbrev m : ℕ
  m = reading.set.lists

  abbrev n : ℕ
  n = reading.set.poses

  abbrev rule : ℕ
  rule = rule_number reading.rule

  abbrev weights : List ℕ
  weights = reading.weights.now

  abbrev items : List ℕ
  items = reading.set.items.now

  abbrev scores : List ℕ
  scores = reading.set.scores.now

  abbrev work : List ℕ
  work = reading.places.now

  abbrev s : Poses
  s = set_of reading.set

  abbrev q : Query
  q = query_of reading

  abbrev v : View
  v = view_of reading

  pub sound : Sound v
  sound =
      let sizes = w.lists_valid.size in
      record {
        m_most = sizes.m_most;
        n_most = sizes.n_most;
        scores_long = w.lists_valid.scores_long;
        work_long = w.work_placed.places_long;
        place_least = λ i d hi hd. omega (arith, w.work_placed.position_at i d hi hd);
        place_most = λ i d hi hd. omega (arith, w.work_placed.position_at i d hi hd, w.lists_valid.has_place i d hi hd);
        weights_small = w.weights_small;
        scores_small = w.scores_small;
      }

  pub sought : (k : ℕ) → 1 ≤ k → k ≤ n → Sought v items k
  unfolding item
  sought k k_least k_most =
      let lists = w.lists_valid in
      let at : (i p : ℕ) → 1 ≤ p → i * n + p - 1 ≡ i * n + (p - 1) = λ i p h. omega arith in
      record {
        rowed = λ p least most.
            record {
              items_long = lists.items_long;
              item_small = λ i hi. rw (at i p least) (lists.is_item i (p - 1) hi (omega arith));
              item_placed = λ i hi.
                  let is_item = lists.is_item i (p - 1) hi (omega arith) in
                  rw (at i p least)
                  (omega (arith, w.work_placed.position_at i (item s i (p - 1)) hi is_item, lists.place_of_item i (p - 1) hi (omega arith)));
              item_there = λ i d hi hd e.
                  let there : place s i d ≡ p - 1 = omega (arith, e, w.work_placed.position_at i d hi hd) in
                  rw (at i p least) (rw there at (lists.item_of_place i d hi hd));
            };
        k_least = k_least;
        k_most = k_most;
      }

  -- the k-th mark is not 0 when NRA stops: its test holds, or every item is met
  pub top_least : {k r count : ℕ} {marks tops met : List ℕ} → 1 ≤ k → k ≤ n → Halted v k r → Leading v r k marks tops met count
      → 1 ≤ get_or tops (k - 1) 0
  unfolding reach_of mark_of met_of
  top_least {k} {r} {marks} {tops} some most found leads =
      by_cases (leb 1 (get_or tops (k - 1) 0))
      (λ y. leb-true 1 (get_or tops (k - 1) 0) y)
      (λ z.
      let none : get_or tops (k - 1) 0 ≡ 0 = omega (arith, leb-false 1 (get_or tops (k - 1) 0) z) in
      let few : reach_of n marks 0 < k = led_few leads.led some none in
      let read = legible sound found.row_least found.row_most in
      let lists = w.lists_valid.size.m_least in
      by_cases (ltb r n)
      (λ y. absurd (true≢false (sym (found.holds (ltb-true r n y)) ∙ halts_few read leads.marked k some few)))
      (λ y.
      let all : reach_of n marks 0 ≡ n =
      passing_all (λ d. ltb 0 (get_or marks d 0)) n
      (λ d hd.
      let met_it : met_of v r d ≡ true =
      some_hit (λ i. leb (get_or work (i * n + d) 0) r) m 0 lists
      (le-leb (get_or work (0 * n + d) 0) r (omega (arith, read.place_most 0 d lists hd, ltb-false r n y))) in
      rw (leads.marked.marks_are d hd, met_it) (lt-ltb 0 (bound_of v false r d + 1) (omega arith))) in
      absurd (omega (arith, few, all))))

  -- what `rank` asks, of the marks and the items met as they stand in slices of their own
  module _ {k r count : ℕ} {marks tops met met' : List ℕ} (leads : Leading v r k marks tops met count) (same_met : met' ≡ met) where
    pub met_room : count ≤ length met'
    met_room = rw same_met (omega (arith, listed_most leads.gathered.listed, leads.gathered.met_long))

    pub rank_asks : {marks' picks lows highs : List ℕ} → marks' ≡ marks → 1 ≤ k → k ≤ n → Halted v k r → Spaced k picks lows highs
        → (1 ≤ r) × (r ≤ n) × Marked v r marks' × Kth n k marks' (get_or tops (k - 1) 0) × (1 ≤ get_or tops (k - 1) 0)
        × Listed n marks' (take count met') (length (take count met')) × Spaced k picks lows highs
    rank_asks same_marks some most found room =
        let size : length (take count met') ≡ count = length-take-le count met' met_room in (
          found.row_least,
          found.row_most,
          rw same_marks leads.marked,
          rw same_marks (kth_of leads.led some),
          top_least some most found leads,
          rw (size, same_marks, same_met) (listed_front leads.gathered.listed),
          room,
        )

  -- so k items are met, and k are held
  pub held_full : {k r count : ℕ} {marks tops met : List ℕ} → 1 ≤ k → k ≤ n → Halted v k r → Leading v r k marks tops met count
      → length (held_of v k r) ≡ k
  unfolding held_of
  held_full {k} {r} some most found leads =
      let least = top_least some most found leads in
      let read = legible sound found.row_least found.row_most in
      bar_full n k (bound_of v false r) (bound_of v true r) (met_of v r) some 0
      (omega (arith, leads.led.counts 0, under_floor leads.led some 0 least, reach_is read leads.marked 0))

  -- a local score, and what stands for one that is not read
  read_is : (p d i x y : ℕ) → i < m → d < n → x ≡ y
      → cond (leb (get_or work (i * n + d) 0) p) (get_or scores (i * n + get_or work (i * n + d) 0 - 1) 0) x ≡ read_or s p d i y
  unfolding score
  read_is p d i x y hi hd e =
      let at : i * n + (place s i d + 1) - 1 ≡ i * n + place s i d = omega arith in
      rw (w.work_placed.position_at i d hi hd, at, add-one (place s i d), e) (sym (read_deep s p d i y hi))

  pub low_is : (p d : ℕ) → d < n → bound_of v false p d ≡ low_nra s q p d
  unfolding bound_of low_nra overall read_at unread
  low_is p d hd =
      joined_same rule (λ i. read_at n scores work d p (unread false n scores p) i * get_or weights i 0) (λ i. read_or s p d i 0 * get_or weights i 0) m
      (λ i hi. ap (λ (x : ℕ). x * get_or weights i 0) (read_is p d i 0 0 hi hd refl))

  pub high_is : (p d : ℕ) → 1 ≤ p → d < n → bound_of v true p d ≡ high_nra s q p d
  unfolding bound_of high_nra overall read_at unread score
  high_is p d least hd =
      joined_same rule (λ i. read_at n scores work d p (unread true n scores p) i * get_or weights i 0)
      (λ i. read_or s p d i (score s i (p - 1)) * get_or weights i 0) m
      (λ i hi.
      let at : i * n + p - 1 ≡ i * n + (p - 1) = omega arith in
      ap (λ (x : ℕ). x * get_or weights i 0)
      (read_is p d i (get_or scores (i * n + p - 1) 0) (score s i (p - 1)) hi hd (ap (λ (j : ℕ). get_or scores j 0) at)))

  pub met_is : (p d : ℕ) → d < n → met_of v p d ≡ met s (rows_nra s p) d
  unfolding met_of
  met_is p d hd =
      some_same (λ i. leb (get_or work (i * n + d) 0) p) (λ i. ltb (place s i d) p) m
      (λ i hi. rw (w.work_placed.position_at i d hi hd, add-one (place s i d)))
      ∙ sym (met_deep s p d)

  module _ (k p : ℕ) (least : 1 ≤ p) where
    pub kept_is : held_of v k p ≡ kept s k (NRA s q) p
    unfolding held_of
    kept_is =
        held_same n k (bound_of v false p) (bound_of v true p) (low_nra s q p) (high_nra s q p) (met_of v p) (met s (rows_nra s p))
        (low_is p) (λ d. high_is p d least) (met_is p)
        ∙ sym (kept_held s q k p)

    pub stops_is : halts_of v k p ≡ stops s k (NRA s q) p
    unfolding halts_of
    stops_is =
        halts_same n k (bound_of v false p) (bound_of v true p) (low_nra s q p) (high_nra s q p) (met_of v p) (met s (rows_nra s p))
        (low_is p) (λ d. high_is p d least) (met_is p) w.lists_valid.size.n_least
        ∙ sym (stops_halts s q k p)

  module _ {k r filled count : ℕ} {marks tops met_items picks₀ lows₀ highs₀ tally₀ picks lows highs tally' : List ℕ}
      (room : Room s k picks₀ lows₀ highs₀ tally₀) (found : Halted v k r) (leads : Leading v r k marks tops met_items count)
      (lent : List ℕ) (lent_size : length lent ≡ k) (at : HeldIn v k r picks₀ lows₀ (lent ++ drop k highs₀) filled picks lows highs)
      (written : tally' ≡ over (table (λ i q. once (ltb q r)) n m) tally₀) where
    holds : r < n → stops s k (NRA s q) r ≡ true
    holds h = sym (stops_is k r found.row_least) ∙ found.holds h

    fails : (p : ℕ) → 1 ≤ p → p < r → stops s k (NRA s q) p ≡ false
    fails p some less = sym (stops_is k p some) ∙ found.not_sooner p some less

    same_list : held_of v k r ≡ kept s k (NRA s q) r
    same_list = kept_is k r found.row_least

    held_item : (d : ℕ) → among d (held_of v k r) ≡ true → d < n
    unfolding held_of held
    held_item d y = (kept_item (ahead (bound_of v false r) (bound_of v true r)) (met_of v r) n k d y).0

    -- what stands for each item kept
    bounds_are : (f g : ℕ → ℕ) → ((d : ℕ) → d < n → f d ≡ g d) → map f (held_of v k r) ≡ map g (kept s k (NRA s q) r)
    bounds_are f g same = map_same f g (held_of v k r) (λ d y. same d (held_item d y)) ∙ ap (map g) same_list

    pub finishes : Finished s q k r picks₀ lows₀ highs₀ tally₀ picks lows highs tally'
    unfolding NRA
    finishes =
        let shown = at.listing.shown in
        record {
          rows_are = sym (rows_are s q k r found.row_least found.row_most holds fails);
          ran = record {
            shortlist = record {
              picks_are = shown.picks_are ∙ ap (λ (x : List ℕ). over x picks₀) same_list;
              lows_are = shown.lows_are ∙ ap (λ (x : List ℕ). over x lows₀) (bounds_are (bound_of v false r) (low_nra s q r) (low_is r));
              highs_are = shown.highs_are
                  ∙ tops_gone lent highs₀ (map (bound_of v true r) (held_of v k r)) lent_size
                  (length-map (held_of v k r) (bound_of v true r) ∙ held_full room.k_least room.k_most found leads)
                  ∙ ap (λ (x : List ℕ). over x highs₀) (bounds_are (bound_of v true r) (high_nra s q r) (λ d. high_is r d found.row_least));
            };
            tally_is = written ∙ ap (λ (x : List ℕ). over x tally₀) (sym (tally_deep s r));
          };
        }
