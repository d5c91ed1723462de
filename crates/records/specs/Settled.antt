-- What the reads and the choice promise to whoever calls them, and nothing of their inside.
--     query_one_to_one, lists_one_to_one     two answers that are told alike and have one value are one answer
--     query_value_once, lists_value_once     two results of reads, of whatever bytes, that have one value are one result
--     query_once, lists_once                 two queries that are read, or two sizes, of one value are one
--     query_settles, lists_settle, weights_settle    any two results that meet a contract coincide, slices included
--     query_zero, lists_zero                 the number is 0 exactly where the model accepts
--     query_within                           a query that is read lies within the bytes, and so does where the next starts
--     lists_sized                            lists that are read: sizes that test 1 lets pass, and room for them
-- A slice that is returned is where it stands and what it holds; the name that the logic tracks it by is no part of a result.
-- Assumes nothing.
use Rattle.std.specs.Prelude.{◌≡◌, refl, ◌||◌, List, ◌↔◌, ℕ, ◌+◌, ◌*◌, ◌≤◌, length, Result, Ok, Err}
use Rattle.std.proofs.Common.{sym, ◌∙◌, arith}
use Rattle.std.proofs.Math.Path.{ap}
use Rattle.std.specs.Borrow.{Bor}
use Rattle.model.specs.Refusals.{Verdict, accepted, refused, ◌when◌, short}
use Rattle.model.specs.Records.{QueryRead as QueryValue, query_head, query_count, query_answer, read_query, ListsRead as ListsValue, lists_m, lists_n, lists_head, lists_verdict, lists_answer, read_lists}
use Rattle.laws.specs.Tests.{or_no}
use Rattle.laws.specs.Verdicts.{Numbered, numbered_when, numbered_then, when_passes, then_first, then_second}
use Rattle.laws.specs.Accepted.{Sized, long}
use Rattle.model.specs.Answers.{Told, told}
use Rattle.poses.specs.declared.refusals.Refusal.{Refusal}
use Rattle.poses.specs.Refusals.{value_of, told_once, number_some}
use Rattle.records.specs.declared.QueryRead.{QueryRead}
use Rattle.records.specs.declared.ListsRead.{ListsRead}
use Rattle.records.specs.Clauses.{value_of_query, QueryIsRead, value_of_lists, ListsAreRead, WeightsChosen}
use Rattle.records.specs.Held.{numbered_query, query_held, numbered_lists, lists_held}
use Rattle.records.specs.Placeless.{Placeless, placeless_query, placeless_verdict}

-- two verdicts that carry 0, 0 and have one number are told alike
told_alike : (a c : Told) (v w : Verdict) → a ≡ told v → c ≡ told w → Placeless v → Placeless w → a.number ≡ c.number → a ≡ c
told_alike a c v w x y none_of_v none_of_w number =
    let list : a.list ≡ c.list = ap (λ (t : Told). t.list) x ∙ none_of_v.0 ∙ sym (ap (λ (t : Told). t.list) y ∙ none_of_w.0) in
    let position : a.position ≡ c.position =
    ap (λ (t : Told). t.position) x ∙ none_of_v.1 ∙ sym (ap (λ (t : Told). t.position) y ∙ none_of_w.1) in
    λ j. record { number = number j; list = list j; position = position j }

-- ---- a query
query_in : QueryValue → QueryRead
query_in v = record { rule = v.rule; k = v.k; c = v.c; bytes = v.bytes }

-- two answers that are told alike and have one value are one answer
pub query_one_to_one : (r t : Result QueryRead Refusal) → value_of r ≡ value_of t → value_of_query r ≡ value_of_query t → r ≡ t
unfolding query_in
query_one_to_one (Ok r) (Ok t) told e = ap (λ (v : QueryValue). Ok (query_in v)) e
query_one_to_one (Ok r) (Err d) told e = absurd (number_some d (sym (ap (λ (v : Told). v.number) told)))
query_one_to_one (Err d) (Ok t) told e = absurd (number_some d (ap (λ (v : Told). v.number) told))
query_one_to_one (Err d) (Err f) told e = ap (λ (x : Refusal). Err x) (told_once d f told)

-- two queries that are read, of one value, are one
pub query_once : (r t : QueryRead) → value_of_query (Ok r) ≡ value_of_query (Ok t) → r ≡ t
unfolding query_in
query_once r t e = ap query_in e

query_number_of : (r : Result QueryRead Refusal) → (value_of_query r).number ≡ (value_of r).number
query_number_of (Ok r) = refl
query_number_of (Err d) = refl

-- two results of reads, of whatever bytes, that have one value are one result
pub query_value_once : {b d : List ℕ} {r t : Result QueryRead Refusal} → QueryIsRead b r → QueryIsRead d t
    → value_of_query r ≡ value_of_query t → r ≡ t
query_value_once {b} {d} {r} {t} x y e =
    query_one_to_one r t
    (told_alike (value_of r) (value_of t) (query_head b) (query_head d) x.tells y.tells (placeless_query b) (placeless_query d)
    (sym (query_number_of r) ∙ ap (λ (v : QueryValue). v.number) e ∙ query_number_of t)) e

pub query_settles : {b : List ℕ} {r t : Result QueryRead Refusal} → QueryIsRead b r → QueryIsRead b t → r ≡ t
query_settles {b} {r} {t} x y = query_one_to_one r t (x.tells ∙ sym y.tells) (x.answers ∙ sym y.answers)

-- an answer's number is 0 only where the verdict accepts
query_number : (v : Verdict) (b : List ℕ) → Numbered v → (query_answer v b).number ≡ 0 → v ≡ accepted
unfolding query_answer
query_number accepted b n e = refl
query_number (refused x i p) b n e = absurd (omega arith)

module _ {b : List ℕ} {r : Result QueryRead Refusal} (x : QueryIsRead b r) where
  pub query_zero : ((value_of_query r).number ≡ 0) ↔ (query_head b ≡ accepted)
  unfolding read_query query_answer
  query_zero =
      let same = ap (λ (v : QueryValue). v.number) x.answers in (
        λ none. query_number (query_head b) b (numbered_query b) (sym same ∙ none),
        λ e. same ∙ ap (λ (v : Verdict). (query_answer v b).number) e,
      )

  -- `&input[bytes..]` is what follows the record
  pub query_within : (q : QueryRead) → r ≡ Ok q → q.bytes ≤ length b
  unfolding read_query query_answer
  query_within q is_read =
      let none : (value_of_query r).number ≡ 0 = rw is_read in
      let passes = query_zero.0 none in
      let answer = x.answers ∙ ap (λ (v : Verdict). query_answer v b) passes in
      let taken : (value_of_query r).bytes ≡ 9 + 2 * query_count b = ap (λ (v : QueryValue). v.bytes) answer in
      let own : q.bytes ≡ 9 + 2 * query_count b = rw is_read at taken in
      omega (arith, (query_held b passes).weights_in, own)

-- ---- lists
lists_in : ListsValue → ListsRead
lists_in v = record { m = v.m; n = v.n }

-- two answers that are told alike and have one value are one answer
pub lists_one_to_one : (r t : Result ListsRead Refusal) → value_of r ≡ value_of t → value_of_lists r ≡ value_of_lists t → r ≡ t
unfolding lists_in
lists_one_to_one (Ok r) (Ok t) told e = ap (λ (v : ListsValue). Ok (lists_in v)) e
lists_one_to_one (Ok r) (Err d) told e = absurd (number_some d (sym (ap (λ (v : Told). v.number) told)))
lists_one_to_one (Err d) (Ok t) told e = absurd (number_some d (ap (λ (v : Told). v.number) told))
lists_one_to_one (Err d) (Err f) told e = ap (λ (x : Refusal). Err x) (told_once d f told)

-- two pairs of sizes that are read, of one value, are one
pub lists_once : (r t : ListsRead) → value_of_lists (Ok r) ≡ value_of_lists (Ok t) → r ≡ t
unfolding lists_in
lists_once r t e = ap lists_in e

lists_number_of : (r : Result ListsRead Refusal) → (value_of_lists r).number ≡ (value_of r).number
lists_number_of (Ok r) = refl
lists_number_of (Err d) = refl

-- two results of reads, of whatever bytes and slices, that have one value are one result
pub lists_value_once : {b d items scores i s items' scores' i' s' : List ℕ} {r t : Result ListsRead Refusal}
    → ListsAreRead b items scores r i s → ListsAreRead d items' scores' t i' s'
    → value_of_lists r ≡ value_of_lists t → r ≡ t
lists_value_once {b} {d} {items} {scores} {items' = items'} {scores' = scores'} {r = r} {t = t} x y e =
    lists_one_to_one r t
    (told_alike (value_of r) (value_of t) (lists_verdict b items scores) (lists_verdict d items' scores') x.tells y.tells
    (placeless_verdict b items scores) (placeless_verdict d items' scores')
    (sym (lists_number_of r) ∙ ap (λ (v : ListsValue). v.number) e ∙ lists_number_of t)) e

pub lists_settle : {b items scores i k s u : List ℕ} {r t : Result ListsRead Refusal} → ListsAreRead b items scores r i s
    → ListsAreRead b items scores t k u → (r ≡ t) × (i ≡ k) × (s ≡ u)
lists_settle {r = r} {t = t} x y = (
  lists_one_to_one r t (x.tells ∙ sym y.tells) (x.answers ∙ sym y.answers),
  x.leaves_items ∙ sym y.leaves_items,
  x.leaves_scores ∙ sym y.leaves_scores,
)

lists_number : (v : Verdict) (b : List ℕ) → Numbered v → (lists_answer v b).number ≡ 0 → v ≡ accepted
unfolding lists_answer
lists_number accepted b n e = refl
lists_number (refused x i p) b n e = absurd (omega arith)

-- The sizes that were read, and that both slices have room for them
pub record ListsSized (items scores : List ℕ) (r : ListsRead) : Type 0 where
  pub sizes : Sized r.m r.n
  pub items_long : r.m * r.n ≤ length items
  pub scores_long : r.m * r.n ≤ length scores

module _ {b items scores i s : List ℕ} {r : Result ListsRead Refusal} (x : ListsAreRead b items scores r i s) where
  numbered_verdict : Numbered (lists_verdict b items scores)
  unfolding lists_verdict
  numbered_verdict =
      let both = short (lists_m b * lists_n b) items || short (lists_m b * lists_n b) scores in
      numbered_then (lists_head b) (6 when both) (numbered_lists b) (numbered_when 6 both (omega arith))

  pub lists_zero : ((value_of_lists r).number ≡ 0) ↔ (lists_verdict b items scores ≡ accepted)
  unfolding read_lists lists_answer
  lists_zero =
      let same = ap (λ (v : ListsValue). v.number) x.answers in (
        λ none. lists_number (lists_verdict b items scores) b numbered_verdict (sym same ∙ none),
        λ e. same ∙ ap (λ (v : Verdict). (lists_answer v b).number) e,
      )

  pub lists_sized : (t : ListsRead) → r ≡ Ok t → ListsSized items scores t
  unfolding read_lists lists_answer lists_verdict
  lists_sized t is_read =
      let none : (value_of_lists r).number ≡ 0 = rw is_read in
      let passes = lists_zero.0 none in
      let answer = x.answers ∙ ap (λ (v : Verdict). lists_answer v b) passes in
      let m_told : (value_of_lists r).m ≡ lists_m b = ap (λ (v : ListsValue). v.m) answer in
      let n_told : (value_of_lists r).n ≡ lists_n b = ap (λ (v : ListsValue). v.n) answer in
      let m_is : t.m ≡ lists_m b = rw is_read at m_told in
      let n_is : t.n ≡ lists_n b = rw is_read at n_told in
      let size = lists_m b * lists_n b in
      let both = short size items || short size scores in
      let six = 6 when both in
      let room = or_no (short size items) (short size scores) (when_passes 6 both (then_second (lists_head b) six passes)) in
      record {
        sizes = rw (m_is, n_is) (lists_held b (then_first (lists_head b) six passes)).sizes;
        items_long = rw (m_is, n_is) (long size items room.0);
        scores_long = rw (m_is, n_is) (long size scores room.1);
      }

-- ---- the weights
pub weights_settle : {query lists r t : Bor (List ℕ)} → WeightsChosen query lists r → WeightsChosen query lists t
    → (r.now ≡ t.now) × (r.ref_ptr ≡ t.ref_ptr)
weights_settle x y = (x.holds ∙ sym y.holds, x.stands ∙ sym y.stands)
