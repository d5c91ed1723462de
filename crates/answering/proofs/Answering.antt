-- From what the parts of a search promise to what the search promises.
--     refused_answer     a search that the tests refuse
--     readable           all that a run may read
--     same_query         the query of the decoded weights is the one lent
--     ran_answer         a search that runs, whichever it is
--     search_answer      the search of a number
-- Assumes nothing.
use mathlib.Core.Path.{◌≡◌, sym, ap, subst, ◌∙◌}
use mathlib.Core.List.{List}
use Prim.Native.Nat.{ℕ, ◌≤◌}
use lib.ListN.{get_or}
use Rattle.model.specs.Given.{Poses, Query}
use Rattle.model.specs.Searches.{Search, kept}
use Rattle.model.specs.Refusals.{accepted, Lent, poses_of, query_of, search_shape, search_verdict}
use Rattle.model.specs.Answers.{Told, told, found, found_after, search_of, answering, answer, written, work_after, slices, slices_with}
use Rattle.laws.specs.Verdicts.{told_zero}
use Rattle.std.specs.Prelude.{Ok, Err}
use Rattle.poses.specs.declared.refusals.Refusal.{Refusal}
use Rattle.poses.specs.Refusals.{told_of, refused_as}
use Rattle.entries.specs.Clauses.{poses}
use Rattle.running.specs.Clauses.{search_at, Did, Runs}
use Rattle.admission.specs.Passing.{TestsPassed}
use Rattle.meeting.specs.declared.Found.{Found}
use Rattle.meeting.specs.Clauses.{query_with, Readable, Ran}
use Rattle.testing.specs.Clauses.{Decoded}
use Rattle.answers.specs.Clauses.{answer_of}
use Rattle.answering.specs.Answered.{Searched}
use Rattle.answering.specs.Shortlists.{items_of, lows_of, highs_of}
use Rattle.admission.specs.Shapes.{numbered_search}

pub refused_answer : (r : Poses → Query → Search) (l : Lent) (e : Refusal) (work : List ℕ) → told_of e ≡ told (search_verdict l)
    → work ≡ work_after (search_shape l) (poses_of l) l.work → Searched r l (answer_of (Err e)) l.picks l.lows l.highs l.tally work
unfolding answer answering slices slices_with written
refused_answer r l e work says left =
    let refuses = refused_as e (search_verdict l) says in
    record {
      number_is = rw refuses;
      list_is = rw refuses;
      position_is = rw refuses;
      rows_are = rw refuses;
      sorted_are = rw refuses;
      direct_are = rw refuses;
      random_are = rw refuses;
      picks_are = rw refuses;
      lows_are = rw refuses;
      highs_are = rw refuses;
      tally_is = rw refuses;
      work_is = left;
    }

-- the query of the decoded weights is the one lent
pub same_query : (l : Lent) (numbers : List ℕ) → Decoded l.weights numbers → query_with l.rule numbers ≡ query_of l
unfolding query_of
same_query l numbers d = λ j. record { rule = l.rule; weight = λ i. d.weight i j }

-- all that a run may read
pub readable : {m n rule k own : ℕ} {weights items scores : List ℕ} {picks lows highs tally : ℕ} {work after : List ℕ} (numbers : List ℕ)
    → TestsPassed m n rule k weights items scores picks lows highs tally work after → Decoded weights numbers
    → ((j : ℕ) → get_or scores j 0 ≤ 65535) → Readable (poses m n items scores) (query_with own numbers) after
readable numbers through decoded small =
    record {
      lists_valid = through.lists_valid;
      work_placed = through.work_placed;
      weights_small = λ i. rw (decoded.weight i) (through.weights_small i);
      scores_small = small;
    }

-- a search that is not refused: the verdict is that it is accepted
verdict_none : (l : Lent) → told accepted ≡ told (search_verdict l) → search_verdict l ≡ accepted
verdict_none l says = told_zero (search_verdict l) (numbered_search l) (sym (ap (λ (x : Told). x.number) says))

-- a search that ran: its answer, from what was found and the four slices
pub ran_answer : (r : Poses → Query → Search) (l : Lent) (d : Found) (picks lows highs marks work : List ℕ)
    → told accepted ≡ told (search_verdict l) → Did (poses_of l) l.k (r (poses_of l) (query_of l)) d
    → Ran (poses_of l) l.k (r (poses_of l) (query_of l)) d.rows l.picks l.lows l.highs l.tally picks lows highs marks
    → work ≡ work_after (search_shape l) (poses_of l) l.work → Searched r l (answer_of (Ok d)) picks lows highs marks work
unfolding answer answering slices slices_with written found found_after search_of
ran_answer r l d picks lows highs marks work says did ran left =
    let e = verdict_none l says in
    let k = l.k in
    let s = poses_of l in
    let by = r s (query_of l) in
    let p = did.rows_are in
    let best = kept s k by d.rows in
    record {
      number_is = rw e;
      list_is = rw e;
      position_is = rw e;
      rows_are = rw e p;
      sorted_are = rw (e, ← p) did.sorted_are;
      direct_are = rw (e, ← p) did.direct_are;
      random_are = rw (e, ← p) did.random_are;
      picks_are = rw (e, ← p, items_of by d.rows best) ran.shortlist.picks_are;
      lows_are = rw (e, ← p, lows_of by d.rows best) ran.shortlist.lows_are;
      highs_are = rw (e, ← p, highs_of by d.rows best) ran.shortlist.highs_are;
      tally_is = rw (e, ← p) ran.tally_is;
      work_is = left;
    }

-- a search that ran, over the query of the decoded weights and of the rule's number
pub search_answer : (which : ℕ) (l : Lent) (rule : ℕ) (numbers : List ℕ) (d : Found) (picks lows highs marks work : List ℕ)
    → told accepted ≡ told (search_verdict l) → rule ≡ l.rule → Decoded l.weights numbers
    → Runs which (poses_of l) (query_with rule numbers) l.k l.picks l.lows l.highs l.tally d picks lows highs marks
    → work ≡ work_after (search_shape l) (poses_of l) l.work → Searched (search_at which) l (answer_of (Ok d)) picks lows highs marks work
search_answer which l rule numbers d picks lows highs marks work says rule_is decoded runs left =
    let own : query_with rule numbers ≡ query_of l
    = ap (λ (x : ℕ). query_with x numbers) rule_is ∙ same_query l numbers decoded in
    let ran = subst (λ (q : Query). Runs which (poses_of l) q l.k l.picks l.lows l.highs l.tally d picks lows highs marks) own runs in
    ran_answer (search_at which) l d picks lows highs marks work says ran.did ran.ran left
