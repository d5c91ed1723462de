-- The tally's closed form, list by list.
--     ones_then_zeros            a list's part of the tally after p rows: ones, and zeros from there on
--     table_more                 one row more of a table
-- Assumes nothing.
use mathlib.Core.Path.{◌≡◌, refl, sym, ap, ◌∙◌}
use mathlib.Core.List.{List, ◌++◌, append-nil, append_assoc}
use Prim.Native.Nat.{ℕ, zero, suc, ◌+◌, ◌-◌, ◌*◌, ◌≤◌}
use native.Mathlib.Nat.{add-zero, add-suc}
use native.Mathlib.Numerals.{add-one}
use native.Mathlib.Omega.{arith}
use lib.Dec.{ltb}
use lib.ListN.{replicate, replicate-append-replicate}
use borrow.Author.Tests.{lt-ltb, le-ltb}
use borrow.Rule.Slice.PartMut.{put_mid}
use Rattle.model.specs.Words.{row, table, over}
use Rattle.laws.specs.Lists.{row_length, table_length, over_more}
use Rattle.laws.specs.Lookups.{once}

-- one entry more at the end of equal ones
replicate_more : (c x : ℕ) → replicate c x ++ replicate 1 x ≡ replicate (suc c) x
replicate_more c x = replicate-append-replicate c 1 x ∙ ap (λ (k : ℕ). replicate k x) (add-one c)

module _ (p : ℕ) where
  -- position q, from 0, after p rows
  abbrev visits : ℕ → ℕ
  visits q = once (ltb q p)

  ones : (q : ℕ) → q ≤ p → row visits q ≡ replicate q 1
  unfolding row
  ones zero h = refl
  ones (suc q) h = rw (ones q (omega arith), lt-ltb q p h) (replicate_more q 1)

  zeros_after : (c : ℕ) → row visits (p + c) ≡ replicate p 1 ++ replicate c 0
  unfolding row
  zeros_after zero = rw (add-zero p) (ones p (omega arith) ∙ sym (append-nil (replicate p 1)))
  zeros_after (suc c) =
      rw (add-suc p c, zeros_after c, le-ltb (p + c) p (omega arith), append_assoc) (ap (λ (l : List ℕ). replicate p 1 ++ l) (replicate_more c 0))

  -- ones over the first p entries and then zeros over the others
  pub ones_then_zeros : (n : ℕ) → p ≤ n → replicate p 1 ++ replicate (n - p) 0 ≡ row visits n
  ones_then_zeros n h =
      let sum : p + (n - p) ≡ n = omega arith in
      sym (zeros_after (n - p)) ∙ ap (row visits) sum

pub table_more : (f : ℕ → ℕ → ℕ) (n i : ℕ) (lent : List ℕ)
    → put_mid (i * n) (i * n + n - i * n) (over (table f n i) lent) (row (f i) n) ≡ over (table f n (suc i)) lent
unfolding table
table_more f n i lent =
    over_more (table f n i) (row (f i) n) lent (i * n) (i * n + n) (table_length f n i)
    (ap (λ (c : ℕ). i * n + c) (row_length (f i) n))
