-- Accesses that are made of whole lookups: how many there are, of each kind, and what they visit.
--     Looked s k tr c            tr is c lookups, each begun by an access of kind k within the m lists and n positions
--     lookup_inside, lookup_length       a lookup lies inside, and has m accesses
--     looked_inside, looked_whole        so it is with all of them; every item is visited equally often in every list
--     looked_length              m accesses each
--     looked_own, looked_other, looked_random    one of the kind k each, none of the other kind, m - 1 random ones each
-- Assumes nothing.
use Rattle.std.specs.Prelude.{◌≡◌, refl, true, false, List, [], ◌++◌, length}
use Rattle.std.proofs.Common.{sym, ◌∙◌, true≢false, zero-mul, suc-mul, arith, length-append}
use Prim.Native.Nat.{ℕ, zero, suc, ◌-◌, ◌*◌, ◌≤◌, ◌<◌}
use Rattle.std.proofs.Math.Dec.{eqb}
use Rattle.model.specs.Given.{Poses, item}
use Rattle.model.specs.Accesses.{Kind, sorted, direct, random, Access, same_kind, randoms, lookup, made}
use Rattle.laws.specs.Tests.{by_cases}
use Rattle.laws.specs.Accepted.{Valid}
use Rattle.laws.specs.Lookups.{made_append, lookup_made_own, lookup_made_other, lookup_made_random, made_none}
use Rattle.laws.specs.Meetings.{Whole, whole_none, whole_more}
use Rattle.laws.specs.Sums.{Inside, inside_none, inside_more, inside_append, made_length}

-- tr is c lookups, each begun by an access of kind k
pub data Looked (s : Poses) (k : Kind) : List Access → ℕ → Type 0 where
  looked_none : Looked s k [] 0
  looked_more : {tr : List Access} {c : ℕ} (i p : ℕ) → i < s.m → p < s.n → Looked s k tr c
      → Looked s k (tr ++ lookup s k i p) (suc c)

plain_kinds : (k : Kind) → same_kind k random ≡ false → (same_kind random k ≡ false) × (same_kind k k ≡ true)
plain_kinds sorted h = (refl, refl)
plain_kinds direct h = (refl, refl)
plain_kinds random h = absurd (true≢false h)

module _ (s : Poses) (v : Valid s) where
  randoms_inside : (d i b : ℕ) → d < s.n → b ≤ s.m → Inside s (randoms s d i b)
  unfolding randoms
  randoms_inside d i zero hd hb = inside_none
  randoms_inside d i (suc b) hd hb =
      inside_append (randoms_inside d i b hd (omega arith))
      (by_cases (eqb b i)
      (λ (y : eqb b i ≡ true). rw y inside_none)
      (λ (z : eqb b i ≡ false). rw z (inside_more hb (v.has_place b d hb hd) inside_none)))

  pub lookup_inside : (k : Kind) (i p : ℕ) → i < s.m → p < s.n → Inside s (lookup s k i p)
  unfolding lookup
  lookup_inside k i p hi hp =
      inside_more hi hp (randoms_inside (item s i p) i s.m (v.is_item i p hi hp) (omega arith))

  pub lookup_length : (k : Kind) (i p : ℕ) → same_kind k random ≡ false → i < s.m → length (lookup s k i p) ≡ s.m
  lookup_length sorted i p h hi =
      omega (
        arith,
        made_length (lookup s sorted i p),
        lookup_made_own s sorted i p refl refl,
        lookup_made_other s direct sorted i p refl refl,
        lookup_made_random s sorted i p refl hi,
      )
  lookup_length direct i p h hi =
      omega (
        arith,
        made_length (lookup s direct i p),
        lookup_made_own s direct i p refl refl,
        lookup_made_other s sorted direct i p refl refl,
        lookup_made_random s direct i p refl hi,
      )
  lookup_length random i p h hi = absurd (true≢false h)

  pub looked_inside : {k : Kind} {tr : List Access} {c : ℕ} → Looked s k tr c → Inside s tr
  looked_inside looked_none = inside_none
  looked_inside {k} (looked_more i p hi hp l) = inside_append (looked_inside l) (lookup_inside k i p hi hp)

  pub looked_whole : {k : Kind} {tr : List Access} {c : ℕ} → Looked s k tr c → Whole s tr
  looked_whole looked_none = whole_none s v
  looked_whole {k} (looked_more i p hi hp l) = whole_more s v (looked_whole l) k i p hi hp

  -- no lookup is begun by a random access
  module _ {k : Kind} (plain : same_kind k random ≡ false) where
    pub looked_length : {tr : List Access} {c : ℕ} → Looked s k tr c → length tr ≡ c * s.m
    looked_length looked_none = sym (zero-mul s.m)
    looked_length (looked_more {tr} {c} i p hi hp l) =
        rw (length-append tr (lookup s k i p), lookup_length k i p plain hi, looked_length l) (sym (suc-mul c s.m))

    pub looked_own : {tr : List Access} {c : ℕ} → Looked s k tr c → made k tr ≡ c
    looked_own looked_none = made_none k
    looked_own (looked_more {tr} {c} i p hi hp l) =
        let kinds = plain_kinds k plain in
        let one = lookup_made_own s k i p kinds.0 kinds.1 in
        rw (made_append k tr (lookup s k i p), one, looked_own l) (omega arith)

    pub looked_random : {tr : List Access} {c : ℕ} → Looked s k tr c → made random tr ≡ c * (s.m - 1)
    looked_random looked_none = made_none random ∙ sym (zero-mul (s.m - 1))
    looked_random (looked_more {tr} {c} i p hi hp l) =
        let others : made random (lookup s k i p) ≡ s.m - 1 = omega (arith, lookup_made_random s k i p plain hi) in
        rw (made_append random tr (lookup s k i p), others, looked_random l) (sym (suc-mul c (s.m - 1)))

    pub looked_other : {tr : List Access} {c : ℕ} (other : Kind) → same_kind random other ≡ false
        → same_kind k other ≡ false → Looked s k tr c → made other tr ≡ 0
    looked_other other a b looked_none = made_none other
    looked_other other a b (looked_more {tr} {c} i p hi hp l) =
        rw (made_append other tr (lookup s k i p), lookup_made_other s other k i p a b, looked_other other a b l)
