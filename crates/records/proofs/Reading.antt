-- What the two reads promise, in each of their ways out.
--     query_refused, query_taken     a query that is refused; that is read
--     Sizes, sizes_read              what is known of the sizes once they are read
--     head_refused                   lists that are refused by their head: both slices are as lent
--     items_short, scores_short      that are refused by 6
--     lists_taken                    that are read
--     refusal_told, items_as_lent, scores_as_lent      lists whose head is refused, by its number alone: what is told, and what is left
-- Assumes nothing.
use mathlib.Core.Path.{◌≡◌, refl, ap, ◌∙◌}
use mathlib.Core.List.{List}
use Prim.Native.Nat.{ℕ, ◌+◌, ◌*◌, ◌≤◌, ◌<◌}
use native.Mathlib.Omega.{arith}
use lib.ListN.{length}
use borrow.Author.Tests.{lt-ltb, le-ltb}
use Rattle.model.specs.Words.{row, over}
use Rattle.model.specs.Refusals.{accepted, refused, pair, short}
use Rattle.model.specs.Answers.{told, written}
use Rattle.model.specs.Records.{byte, query_rule, query_k, query_count, query_head, query_answer, read_query, lists_m, lists_n, entry_item, entry_score, lists_head, lists_verdict, lists_answer, read_lists, items_after, scores_after}
use Rattle.laws.specs.Accepted.{size_fits}
use Rattle.filling.specs.Clauses.{every_fourth}
use Rattle.std.specs.Prelude.{Ok, Err}
use Rattle.poses.specs.declared.refusals.Refusal.{Refusal}
use Rattle.poses.specs.declared.refusals.Refusal.TheVariants.{ShortRoom}
use Rattle.poses.specs.Refusals.{told_of, refused_as}
use Rattle.records.specs.declared.QueryRead.{QueryRead}
use Rattle.records.specs.Clauses.{lists_refusal, QueryIsRead, ListsAreRead}
use Rattle.records.specs.Held.{refused_by, lists_held}

-- ---- a query
module _ (b : List ℕ) where
  pub query_refused : (e : Refusal) → told_of e ≡ told (query_head b) → QueryIsRead b (Err e)
  unfolding read_query query_answer
  query_refused e says = record { tells = says; answers = rw (refused_as e (query_head b) says) }

  -- the answer of a query that is read, from its k and its count
  abbrev pub query_of : ℕ → ℕ → QueryRead
  query_of k c = record { rule = byte b 5; k = k; c = c; bytes = 9 + 2 * c }

  pub query_taken : (k c : ℕ) → query_head b ≡ accepted → k ≡ pair b 6 → c ≡ query_count b → QueryIsRead b (Ok (query_of k c))
  unfolding read_query query_answer query_rule query_k
  query_taken k c passes k_is c_is = record { tells = rw passes; answers = rw (passes, k_is, c_is) }

-- ---- lists
-- m and n are the sizes of a list record that passes: m x n is small, and the bytes are head, house weights and m x n entries
pub record Sizes (b : List ℕ) (m n : ℕ) : Type 0 where
  pub passes : lists_head b ≡ accepted
  pub m_is : m ≡ lists_m b
  pub n_is : n ≡ lists_n b
  pub small : m * n ≤ 8192
  pub whole : length b ≡ 8 + 2 * m + 4 * (m * n)

pub sizes_read : (b : List ℕ) {m n : ℕ} → lists_head b ≡ accepted → m ≡ lists_m b → n ≡ lists_n b → Sizes b m n
sizes_read b passes m_is n_is =
    let held = lists_held b passes in
    record {
      passes = passes;
      m_is = m_is;
      n_is = n_is;
      small = rw (m_is, n_is) (size_fits held.sizes);
      whole = rw (m_is, n_is) held.whole;
    }

module _ (b items scores : List ℕ) where
  -- both slices are as lent
  abbrev pub AsLent : Refusal → Type 0
  AsLent e = ListsAreRead b items scores (Err e) items scores

  refused_leaves : (e : Refusal) → lists_verdict b items scores ≡ refused (told_of e).number (told_of e).list (told_of e).position → AsLent e
  unfolding read_lists lists_answer items_after scores_after written
  refused_leaves e says = record { tells = rw says; answers = rw says; leaves_items = rw says; leaves_scores = rw says }

  -- lists that are refused by their head
  pub head_refused : (e : Refusal) → told_of e ≡ told (lists_head b) → AsLent e
  unfolding lists_verdict
  head_refused e says = refused_leaves e (rw (refused_as e (lists_head b) says))

  module _ {m n : ℕ} (z : Sizes b m n) where
    -- a slice is too short
    pub items_short : length items < m * n → AsLent ShortRoom
    unfolding lists_verdict short
    items_short h = refused_leaves ShortRoom (rw (z.passes, ← z.m_is, ← z.n_is, lt-ltb (length items) (m * n) h))

    module _ (items_room : m * n ≤ length items) where
      pub scores_short : length scores < m * n → AsLent ShortRoom
      unfolding lists_verdict short
      scores_short h =
          refused_leaves ShortRoom
          (rw (z.passes, ← z.m_is, ← z.n_is, le-ltb (length items) (m * n) items_room)
          (rw (lt-ltb (length scores) (m * n) h)))

      module _ (scores_room : m * n ≤ length scores) where
        accepts : lists_verdict b items scores ≡ accepted
        unfolding lists_verdict short
        accepts =
            rw (z.passes, ← z.m_is, ← z.n_is, le-ltb (length items) (m * n) items_room)
            (rw (le-ltb (length scores) (m * n) scores_room))

        -- a slice filled with the entries' pairs from an offset on
        abbrev pub filled_from : ℕ → List ℕ → List ℕ
        filled_from from lent = over (row (every_fourth b from) (m * n)) lent

        -- an entry's score follows its item
        scores_filled : filled_from (8 + 2 * m + 2) scores ≡ filled_from (10 + 2 * m) scores
        scores_filled = let at : 8 + 2 * m + 2 ≡ 10 + 2 * m = omega arith in ap (λ (from : ℕ). filled_from from scores) at

        pub lists_taken : {i s : List ℕ} → i ≡ filled_from (8 + 2 * m) items → s ≡ filled_from (8 + 2 * m + 2) scores
            → ListsAreRead b items scores (Ok (record { m = m; n = n })) i s
        unfolding read_lists lists_answer items_after scores_after written entry_item entry_score
        lists_taken i_is s_is =
            record {
              tells = rw accepts;
              answers = rw (accepts, z.m_is, z.n_is);
              leaves_items = rw accepts (rw (z.m_is, z.n_is) at i_is);
              leaves_scores = rw accepts (rw (z.m_is, z.n_is) at (s_is ∙ scores_filled));
            }

-- ---- lists whose head is refused, by whatever test of the number it is seen
module _ (b items scores : List ℕ) where
  head_told : {x : ℕ} (i p : ℕ) → lists_head b ≡ refused x i p → read_lists b items scores ≡ lists_refusal x
  unfolding read_lists lists_answer lists_verdict
  head_told i p e = rw e

  items_left : {x : ℕ} (i p : ℕ) → lists_head b ≡ refused x i p → items_after b items scores ≡ items
  unfolding items_after written lists_verdict
  items_left i p e = rw e

  scores_left : {x : ℕ} (i p : ℕ) → lists_head b ≡ refused x i p → scores_after b items scores ≡ scores
  unfolding scores_after written lists_verdict
  scores_left i p e = rw e

  module _ (some : 0 < (told (lists_head b)).number) where
    pub refusal_told : read_lists b items scores ≡ lists_refusal (told (lists_head b)).number
    refusal_told = refused_by (lists_head b) refl (λ none. absurd (omega (arith, none))) (λ i p refuses. head_told i p refuses)

    pub items_as_lent : items_after b items scores ≡ items
    items_as_lent = refused_by (lists_head b) refl (λ none. absurd (omega (arith, none))) (λ i p refuses. items_left i p refuses)

    pub scores_as_lent : scores_after b items scores ≡ scores
    scores_as_lent = refused_by (lists_head b) refl (λ none. absurd (omega (arith, none))) (λ i p refuses. scores_left i p refuses)
