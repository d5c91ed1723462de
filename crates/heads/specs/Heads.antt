-- The tests of each record, from each of them on.
--     query_says, query_from_12 ..        a query record's length by its count; its tests from each of them on
--     lists_says, lists_from_11 ..        a list record's
-- Assumes nothing.
use Rattle.std.specs.Prelude.{not, List, ℕ, ◌+◌, ◌-◌, ◌*◌, eqb, ltb, length}
use Rattle.model.specs.Refusals.{Verdict, ◌when◌, ◌then◌, wrong_size}
use Rattle.model.specs.Records.{byte, quad, query_count, lists_m, lists_n}

-- ---- a query record
module _ (b : List ℕ) where
  -- the length that its count says
  abbrev pub query_says : ℕ
  query_says = 5 + 2 * query_count b

  -- its tests from the last, the one before it, and so on, up to the second
  abbrev pub query_from_11 : Verdict
  query_from_11 = 11 when ltb (length b - 4) (quad b 0)

  abbrev pub query_from_13 : Verdict
  query_from_13 = 13 when not (eqb (quad b 0) query_says) then query_from_11

  abbrev pub query_from_12 : Verdict
  query_from_12 = 12 when not (eqb (byte b 4) 1) then query_from_13

-- ---- a list record
module _ (b : List ℕ) where
  -- the length that its counts say
  abbrev pub lists_says : ℕ
  lists_says = 4 + 2 * lists_m b + 4 * (lists_m b * lists_n b)

  -- its tests from the last, the one before it, and so on, up to the second
  abbrev pub lists_from_13 : Verdict
  lists_from_13 = 13 when not (eqb (quad b 0) lists_says)

  abbrev pub lists_from_1 : Verdict
  lists_from_1 = 1 when wrong_size (lists_m b) (lists_n b) then lists_from_13

  abbrev pub lists_from_12 : Verdict
  lists_from_12 = 12 when not (eqb (byte b 4) 1) then lists_from_1

  abbrev pub lists_from_11 : Verdict
  lists_from_11 = 11 when not (eqb (quad b 0) (length b - 4)) then lists_from_12
