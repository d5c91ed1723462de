-- What `chosen_weights` promises of the part that it returns, on each of its ways out.
--     lent_holds         what the lent slice of a record holds is the record
--     part_from           the part of a lent slice from where a part says on, up to an end
--     part_chosen        it is the chosen one, where that part is chosen and is as long
--     none_of_refused_query, none_of_refused_lists       where a read refuses
--     none_of_numbered_query, none_of_numbered_lists     the same, seen by the number alone
-- Assumes nothing.
use mathlib.Core.Path.{◌≡◌, refl}
use mathlib.Core.List.{List}
use Prim.Native.Nat.{ℕ, ◌+◌, ◌-◌, ◌<◌}
use native.Mathlib.Omega.{arith}
use denote.Ref.{Bor}
use borrow.Rule.Slice.PartAt.{sl_partˢ}
use Rattle.model.specs.Refusals.{accepted, refused}
use Rattle.model.specs.Answers.{told}
use Rattle.model.specs.Records.{Part, Record, the_query, the_lists, query_head, lists_head, chosen, record_of, part_of}
use Rattle.records.specs.Choice.{no_part, chosen_of_refused_query, chosen_of_refused_lists}
use Rattle.poses.specs.declared.refusals.Refusal.{Refusal}
use Rattle.poses.specs.Refusals.{told_of, refused_as}
use Rattle.records.specs.Held.{refused_by, query_accepted}
use Rattle.records.specs.Clauses.{lent_of, start_of, WeightsChosen}

lent_holds : (s : Record) (query lists : Bor (List ℕ)) → (lent_of s query lists).now ≡ record_of s query.now lists.now
unfolding lent_of record_of
lent_holds the_query query lists = refl
lent_holds the_lists query lists = refl

module _ (query lists : Bor (List ℕ)) (part : Part) where
  abbrev pub part_from : ℕ → Bor (List ℕ)
  part_from e =
      let from = lent_of part.source query lists in
      sl_partˢ from (part.start + from.ref_ptr.1) part.start e

  pub part_chosen : (e : ℕ) → chosen query.now lists.now ≡ part → e - part.start ≡ part.size
      → WeightsChosen query lists (part_from e)
  unfolding start_of part_of
  part_chosen e is_chosen long =
      record { holds = rw (is_chosen, long, lent_holds part.source query lists); stands = rw is_chosen }

-- Where a read refuses, the part is empty
pub none_of_refused_query : (query lists : List ℕ) (e : Refusal) → told_of e ≡ told (query_head query) → chosen query lists ≡ no_part
none_of_refused_query query lists e says = chosen_of_refused_query query lists (refused_as e (query_head query) says)

pub none_of_refused_lists : (query lists : List ℕ) (e : Refusal) → query_head query ≡ accepted → told_of e ≡ told (lists_head lists)
    → chosen query lists ≡ no_part
none_of_refused_lists query lists e passes says =
    chosen_of_refused_lists query lists passes (refused_as e (lists_head lists) says)

-- The same, by whatever test of its number a refusal is seen
pub none_of_numbered_query : (query lists : List ℕ) → 0 < (told (query_head query)).number → chosen query lists ≡ no_part
none_of_numbered_query query lists some =
    refused_by (query_head query) refl (λ none. absurd (omega (arith, none)))
    (λ i p (refuses : query_head query ≡ refused (told (query_head query)).number i p). chosen_of_refused_query query lists refuses)

pub none_of_numbered_lists : (query lists : List ℕ) → (told (query_head query)).number ≡ 0 → 0 < (told (lists_head lists)).number
    → chosen query lists ≡ no_part
none_of_numbered_lists query lists passes some =
    refused_by (lists_head lists) refl (λ none. absurd (omega (arith, none)))
    (λ i p (refuses : lists_head lists ≡ refused (told (lists_head lists)).number i p).
    chosen_of_refused_lists query lists (query_accepted query refl passes) refuses)
