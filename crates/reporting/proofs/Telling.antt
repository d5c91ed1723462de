-- From what a function beneath promises to what is told of it.
--     check_accepted, query_told, lists_told         the numbers of an answer that is not refused are the model's
--     check_refused, query_refused, lists_refused    those of a refusal
-- Assumes nothing.
use mathlib.Core.Path.{ap}
use mathlib.Core.List.{List, [], ◌∷◌}
use Prim.Native.Nat.{ℕ}
use Rattle.model.specs.Given.{Poses}
use Rattle.model.specs.Answers.{Told as ToldValue}
use Rattle.model.specs.Records.{QueryRead as QueryValue, ListsRead as ListsValue}
use Rattle.std.specs.Prelude.{Ok, Err}
use Rattle.poses.specs.declared.refusals.Refusal.{Refusal}
use Rattle.poses.specs.Refusals.{told_of}
use Rattle.lists.specs.Clauses.{ListsChecked}
use Rattle.records.specs.declared.QueryRead.{QueryRead}
use Rattle.records.specs.declared.ListsRead.{ListsRead}
use Rattle.records.specs.Clauses.{QueryIsRead, ListsAreRead}
use Rattle.reporting.specs.Told.{check_numbers, query_numbers, lists_numbers, CheckTold, QueryTold, ListsTold}

pub check_accepted : {s : Poses} {work after : List ℕ} {u : Unit {0}} → ListsChecked s work (Ok u) after
    → CheckTold s work 0 (0 ∷ 0 ∷ 0 ∷ []) after
check_accepted x =
    record { number_is = ap (λ (t : ToldValue). t.number) x.answers; told_is = ap check_numbers x.answers; leaves = x.leaves }

pub check_refused : {s : Poses} {work after : List ℕ} {e : Refusal} → ListsChecked s work (Err e) after
    → CheckTold s work (told_of e).number ((told_of e).number ∷ (told_of e).list ∷ (told_of e).position ∷ []) after
check_refused x =
    record { number_is = ap (λ (t : ToldValue). t.number) x.answers; told_is = ap check_numbers x.answers; leaves = x.leaves }

pub query_told : {bytes : List ℕ} {q : QueryRead} → QueryIsRead bytes (Ok q)
    → QueryTold bytes 0 (0 ∷ q.rule ∷ q.k ∷ q.c ∷ q.bytes ∷ [])
query_told x = record { number_is = ap (λ (v : QueryValue). v.number) x.answers; told_is = ap query_numbers x.answers }

pub query_refused : {bytes : List ℕ} {e : Refusal} → QueryIsRead bytes (Err e)
    → QueryTold bytes (told_of e).number ((told_of e).number ∷ 0 ∷ 0 ∷ 0 ∷ 0 ∷ [])
query_refused x = record { number_is = ap (λ (v : QueryValue). v.number) x.answers; told_is = ap query_numbers x.answers }

pub lists_told : {bytes items scores i s : List ℕ} {t : ListsRead} → ListsAreRead bytes items scores (Ok t) i s
    → ListsTold bytes items scores 0 (0 ∷ t.m ∷ t.n ∷ []) i s
lists_told x =
    record {
      number_is = ap (λ (v : ListsValue). v.number) x.answers;
      told_is = ap lists_numbers x.answers;
      leaves_items = x.leaves_items;
      leaves_scores = x.leaves_scores;
    }

pub lists_refused : {bytes items scores i s : List ℕ} {e : Refusal} → ListsAreRead bytes items scores (Err e) i s
    → ListsTold bytes items scores (told_of e).number ((told_of e).number ∷ 0 ∷ 0 ∷ []) i s
lists_refused x =
    record {
      number_is = ap (λ (v : ListsValue). v.number) x.answers;
      told_is = ap lists_numbers x.answers;
      leaves_items = x.leaves_items;
      leaves_scores = x.leaves_scores;
    }
