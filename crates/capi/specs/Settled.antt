-- Any two results that meet a promise of `capi` coincide: what is returned, the array and every slice.
--     SameSearch, search_settles     of a search
--     check_settles, query_settles, lists_settle, part_settles   of the list check, the reads and the choice
--     told_part                      the part that is told is the one that `records::chosen_weights` returns: it stands there and
--                                    has those bytes
-- Assumes nothing.
use Rattle.std.specs.Prelude.{◌≡◌, refl, List, ℕ, zero, suc, ◌+◌, length, get_or}
use Rattle.std.proofs.Common.{sym, ap, ◌∙◌}
use Rattle.std.specs.Borrow.{Bor}
use Rattle.model.specs.Given.{Poses, Query}
use Rattle.model.specs.Searches.{Search}
use Rattle.model.specs.Refusals.{Lent}
use Rattle.model.specs.Records.{Record, the_query, the_lists, chosen}
use Rattle.records.specs.Clauses.{lent_of, start_of, WeightsChosen}
use Rattle.reporting.specs.Choosing.{chosen_length}
use Rattle.telling.specs.Told.{SearchTold}
use Rattle.reporting.specs.Told.{source_number, CheckTold, QueryTold, ListsTold, PartTold}

-- The results of a search: what it returns, the array, the five slices
pub record SameSearch (number number' : ℕ) (told picks lows highs tally work told' picks' lows' highs' tally' work' : List ℕ) : Type 0 where
  pub numbers : number ≡ number'
  pub told_same : told ≡ told'
  pub picks_same : picks ≡ picks'
  pub lows_same : lows ≡ lows'
  pub highs_same : highs ≡ highs'
  pub tally_same : tally ≡ tally'
  pub work_same : work ≡ work'

pub search_settles : {r : Poses → Query → Search} {l : Lent} {number number' : ℕ}
    {told picks lows highs tally work told' picks' lows' highs' tally' work' : List ℕ}
    → SearchTold r l number told picks lows highs tally work → SearchTold r l number' told' picks' lows' highs' tally' work'
    → SameSearch number number' told picks lows highs tally work told' picks' lows' highs' tally' work'
search_settles x y =
    record {
      numbers = x.number_is ∙ sym y.number_is;
      told_same = x.told_is ∙ sym y.told_is;
      picks_same = x.picks_are ∙ sym y.picks_are;
      lows_same = x.lows_are ∙ sym y.lows_are;
      highs_same = x.highs_are ∙ sym y.highs_are;
      tally_same = x.tally_is ∙ sym y.tally_is;
      work_same = x.work_is ∙ sym y.work_is;
    }

pub check_settles : {s : Poses} {work : List ℕ} {number number' : ℕ} {told after told' after' : List ℕ}
    → CheckTold s work number told after → CheckTold s work number' told' after' → (number ≡ number') × (told ≡ told') × (after ≡ after')
check_settles x y = (x.number_is ∙ sym y.number_is, x.told_is ∙ sym y.told_is, x.leaves ∙ sym y.leaves)

pub query_settles : {bytes : List ℕ} {number number' : ℕ} {told told' : List ℕ}
    → QueryTold bytes number told → QueryTold bytes number' told' → (number ≡ number') × (told ≡ told')
query_settles x y = (x.number_is ∙ sym y.number_is, x.told_is ∙ sym y.told_is)

pub lists_settle : {bytes items scores : List ℕ} {number number' : ℕ} {told i s told' i' s' : List ℕ}
    → ListsTold bytes items scores number told i s → ListsTold bytes items scores number' told' i' s'
    → (number ≡ number') × (told ≡ told') × (i ≡ i') × (s ≡ s')
lists_settle x y = (
  x.number_is ∙ sym y.number_is,
  x.told_is ∙ sym y.told_is,
  x.leaves_items ∙ sym y.leaves_items,
  x.leaves_scores ∙ sym y.leaves_scores,
)

pub part_settles : {query lists : List ℕ} {size size' : ℕ} {told told' : List ℕ}
    → PartTold query lists size told → PartTold query lists size' told' → (size ≡ size') × (told ≡ told')
part_settles x y = (x.size_is ∙ sym y.size_is, x.told_is ∙ sym y.told_is)

-- which of the two lent slices a told number means: 0 the query, any other the lists
abbrev pub lent_at : ℕ → Bor (List ℕ) → Bor (List ℕ) → Bor (List ℕ)
lent_at zero query lists = query
lent_at (suc which) query lists = lists

lent_of_is_lent_at : (s : Record) (query lists : Bor (List ℕ)) → lent_of s query lists ≡ lent_at (source_number s) query lists
unfolding lent_of source_number
lent_of_is_lent_at the_query query lists = refl
lent_of_is_lent_at the_lists query lists = refl

-- The part that three told numbers mean: it starts so many bytes into the slice of its record, and has so many bytes
pub record SamePart (query lists weights : Bor (List ℕ)) (told : List ℕ) : Type 0 where
  pub stands : weights.ref_ptr ≡ ((lent_at (get_or told 0 0) query lists).ref_ptr.0, get_or told 1 0 + (lent_at (get_or told 0 0) query lists).ref_ptr.1)
  pub bytes_are : length weights.now ≡ get_or told 2 0

pub told_part : {query lists weights : Bor (List ℕ)} {size : ℕ} {told : List ℕ}
    → WeightsChosen query lists weights → PartTold query.now lists.now size told → SamePart query lists weights told
unfolding start_of
told_part {query} {lists} {weights} {size} {told} w t =
    let part = chosen query.now lists.now in
    record {
      stands = rw t.told_is (rw (← lent_of_is_lent_at part.source query lists) w.stands);
      bytes_are = rw t.told_is (ap length w.holds ∙ chosen_length query.now lists.now);
    }
