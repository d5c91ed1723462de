-- The chosen part by its cases, and how long it is.
--     no_part, house_part, own_part     the empty part; the house weights of the lists; the query's own weights
--     chosen_of_refused_query, chosen_of_refused_lists       either record is refused: the part is empty
--     chosen_house, chosen_own       both pass: c = 0 takes the house weights, any other c the query's own
--     house_length, own_length       the chosen part lies whole within its record
--     other_count_refused            "Any other c hands on its own weights as well, and the search refuses them by 4"
-- Assumes nothing.
use Rattle.std.specs.Prelude.{◌≡◌, true, List, ℕ, ◌+◌, ◌*◌, ◌≤◌, length, take, drop}
use Rattle.std.proofs.Common.{arith, length-drop, length-take-le}
use borrow.Author.Tests.{eq-eqb, ne_eqb}
use Rattle.model.specs.Refusals.{accepted, refused, wrong_weights}
use Rattle.model.specs.Records.{query_count, query_head, lists_m, lists_head, Part, the_query, the_lists, chosen_part, choosing, chosen, record_of, part_of}
use Rattle.records.specs.Held.{query_held, lists_held}

abbrev pub no_part : Part
no_part = record { source = the_query; start = 0; size = 0 }

abbrev pub house_part : List ℕ → Part
house_part lists = record { source = the_lists; start = 8; size = 2 * lists_m lists }

abbrev pub own_part : List ℕ → Part
own_part query = record { source = the_query; start = 9; size = 2 * query_count query }

part_length : (b : List ℕ) (start size : ℕ) → start + size ≤ length b → length (take size (drop start b)) ≡ size
part_length b start size h = length-take-le size (drop start b) (rw length-drop (omega arith))

module _ (query lists : List ℕ) where
  -- the weights as they go to a search
  abbrev pub weights_of : List ℕ
  weights_of = part_of (chosen query lists) query lists

  pub chosen_of_refused_query : {x i p : ℕ} → query_head query ≡ refused x i p → chosen query lists ≡ no_part
  unfolding chosen choosing
  chosen_of_refused_query e = rw e

  module _ (query_passes : query_head query ≡ accepted) where
    pub chosen_of_refused_lists : {x i p : ℕ} → lists_head lists ≡ refused x i p → chosen query lists ≡ no_part
    unfolding chosen choosing
    chosen_of_refused_lists e = rw (query_passes, e)

    module _ (lists_pass : lists_head lists ≡ accepted) where
      pub chosen_house : query_count query ≡ 0 → chosen query lists ≡ house_part lists
      unfolding chosen choosing chosen_part
      chosen_house e = rw (query_passes, lists_pass, eq-eqb (query_count query) 0 e)

      pub chosen_own : (query_count query ≡ 0 → ⊥) → chosen query lists ≡ own_part query
      unfolding chosen choosing chosen_part
      chosen_own h = rw (query_passes, lists_pass, ne_eqb (query_count query) 0 h)

      pub house_length : query_count query ≡ 0 → length weights_of ≡ 2 * lists_m lists
      unfolding part_of record_of
      house_length e =
          let whole = (lists_held lists lists_pass).whole in
          rw (chosen_house e) (part_length lists 8 (2 * lists_m lists) (omega arith))

      pub own_length : (query_count query ≡ 0 → ⊥) → length weights_of ≡ 2 * query_count query
      unfolding part_of record_of
      own_length h =
          let held = query_held query query_passes in
          rw (chosen_own h) (part_length query 9 (2 * query_count query) held.weights_in)

      pub other_count_refused : (query_count query ≡ 0 → ⊥) → (query_count query ≡ lists_m lists → ⊥)
          → wrong_weights (lists_m lists) weights_of ≡ true
      unfolding wrong_weights
      other_count_refused h other =
          rw (ne_eqb (length weights_of) (2 * lists_m lists) (λ e. other (omega (arith, own_length h))))
