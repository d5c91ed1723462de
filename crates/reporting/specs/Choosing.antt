-- The chosen part, told by the bytes of the weights and how many weights the query has.
--     Choice, choice                     the three cases: refused records, the house weights, the query's own
--     chosen_length                      the weights chosen have as many bytes as their part says
--     none_told, house_told, own_told    what is told on each of the three ways out
-- Assumes nothing.
use Rattle.std.specs.Prelude.{◌≡◌, List, [], ◌∷◌, ℕ, zero, suc, ◌*◌, ◌≤◌, length}
use Rattle.std.proofs.Math.Path.{refl, sym}
use Rattle.std.proofs.Common.{ap, ◌∙◌, arith}
use Rattle.model.specs.Refusals.{accepted, refused}
use Rattle.model.specs.Records.{QueryRead as QueryValue, query_count, query_head, query_answer, read_query, lists_m, lists_head, Part, chosen, part_of}
use Rattle.laws.specs.Verdicts.{by_verdict}
use Rattle.records.specs.declared.QueryRead.{QueryRead}
use Rattle.std.specs.Prelude.{Result}
use Rattle.poses.specs.declared.refusals.Refusal.{Refusal}
use Rattle.records.specs.Clauses.{value_of_query, QueryIsRead}
use Rattle.records.specs.Held.{lists_held}
use Rattle.records.specs.Choice.{no_part, house_part, own_part, weights_of, chosen_of_refused_query, chosen_of_refused_lists, chosen_house, chosen_own, house_length, own_length}
use Rattle.reporting.specs.Told.{source_number, PartTold}

-- a number is 0 or it is not
zero_or_more : {X : Type 0} (x : ℕ) → (x ≡ 0 → X) → ((x ≡ 0 → ⊥) → X) → X
zero_or_more zero f g = f refl
zero_or_more (suc x) f g = g (λ none. omega arith)

-- the chosen part, and what tells it from the others
pub data Choice (query lists : List ℕ) : Type 0 where
  none_is : chosen query lists ≡ no_part → length (weights_of query lists) ≡ 0 → Choice query lists
  house_is : chosen query lists ≡ house_part lists → length (weights_of query lists) ≡ 2 * lists_m lists → 1 ≤ lists_m lists
      → (read_query query).c ≡ 0 → Choice query lists
  own_is : chosen query lists ≡ own_part query → length (weights_of query lists) ≡ 2 * query_count query → (query_count query ≡ 0 → ⊥)
      → (read_query query).c ≡ query_count query → Choice query lists

module _ (query lists : List ℕ) where
  no_weights : chosen query lists ≡ no_part → length (weights_of query lists) ≡ 0
  unfolding part_of
  no_weights e = rw e

  pub choice : Choice query lists
  unfolding read_query query_answer
  choice =
      by_verdict (query_head query)
      (λ (passes : query_head query ≡ accepted).
      by_verdict (lists_head lists)
      (λ (pass : lists_head lists ≡ accepted).
      let count : (read_query query).c ≡ query_count query = rw passes in
      zero_or_more (query_count query)
      (λ empty.
      house_is (chosen_house query lists passes pass empty) (house_length query lists passes pass empty)
      (lists_held lists pass).sizes.m_least (count ∙ empty))
      (λ more. own_is (chosen_own query lists passes pass more) (own_length query lists passes pass more) more count))
      (λ x i p (e : lists_head lists ≡ refused x i p).
      let nothing = chosen_of_refused_lists query lists passes e in
      none_is nothing (no_weights nothing)))
      (λ x i p (e : query_head query ≡ refused x i p).
      let nothing = chosen_of_refused_query query lists e in
      none_is nothing (no_weights nothing))

  length_by : Choice query lists → length (weights_of query lists) ≡ (chosen query lists).size
  length_by (none_is e bytes) = bytes ∙ sym (ap (λ (p : Part). p.size) e)
  length_by (house_is e bytes least count) = bytes ∙ sym (ap (λ (p : Part). p.size) e)
  length_by (own_is e bytes more count) = bytes ∙ sym (ap (λ (p : Part). p.size) e)

  -- the chosen part lies whole within its record
  pub chosen_length : length (weights_of query lists) ≡ (chosen query lists).size
  chosen_length = length_by choice

  -- a chosen part as told
  part_told : (part : Part) (size : ℕ) → chosen query lists ≡ part → size ≡ part.size
      → PartTold query lists size (source_number part.source ∷ part.start ∷ size ∷ [])
  part_told part size e s = record { size_is = rw e s; told_is = rw (e, s) }

module _ (query lists : List ℕ) (size count : ℕ) (long : size ≡ length (weights_of query lists)) (counted : count ≡ (read_query query).c) where
  none_by : Choice query lists → size ≡ 0 → PartTold query lists 0 (0 ∷ 0 ∷ 0 ∷ [])
  unfolding source_number
  none_by (none_is e bytes) empty = part_told query lists no_part 0 e refl
  none_by (house_is e bytes least says) empty = absurd (omega arith)
  none_by (own_is e bytes more says) empty = absurd (more (omega arith))

  house_by : Choice query lists → (size ≡ 0 → ⊥) → count ≡ 0 → PartTold query lists size (1 ∷ 8 ∷ size ∷ [])
  unfolding source_number
  house_by (none_is e bytes) some empty = absurd (some (long ∙ bytes))
  house_by (house_is e bytes least says) some empty = part_told query lists (house_part lists) size e (long ∙ bytes)
  house_by (own_is e bytes more says) some empty = absurd (more (sym says ∙ sym counted ∙ empty))

  own_by : Choice query lists → (size ≡ 0 → ⊥) → (count ≡ 0 → ⊥) → PartTold query lists size (0 ∷ 9 ∷ size ∷ [])
  unfolding source_number
  own_by (none_is e bytes) some more = absurd (some (long ∙ bytes))
  own_by (house_is e bytes least says) some more = absurd (more (counted ∙ says))
  own_by (own_is e bytes many says) some more = part_told query lists (own_part query) size e (long ∙ bytes)

-- the three ways out, by the weights and by what the read of the query answers
pub none_told : (query lists : List ℕ) {w : List ℕ} → w ≡ weights_of query lists → length w ≡ 0 → PartTold query lists 0 (0 ∷ 0 ∷ 0 ∷ [])
none_told query lists {w} holds = none_by query lists (length w) (read_query query).c (ap length holds) refl (choice query lists)

module _ (query lists : List ℕ) {w : List ℕ} {r : Result QueryRead Refusal} (holds : w ≡ weights_of query lists) (read : QueryIsRead query r) where
  counts : (value_of_query r).c ≡ (read_query query).c
  counts = ap (λ (v : QueryValue). v.c) read.answers

  pub house_told : (length w ≡ 0 → ⊥) → (value_of_query r).c ≡ 0 → PartTold query lists (length w) (1 ∷ 8 ∷ length w ∷ [])
  house_told = house_by query lists (length w) (value_of_query r).c (ap length holds) counts (choice query lists)

  pub own_told : (length w ≡ 0 → ⊥) → ((value_of_query r).c ≡ 0 → ⊥) → PartTold query lists (length w) (0 ∷ 9 ∷ length w ∷ [])
  own_told = own_by query lists (length w) (value_of_query r).c (ap length holds) counts (choice query lists)
