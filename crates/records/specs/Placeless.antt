-- A record that is refused is met at no position of the lists: its number tells the refusal.
--     Placeless                          a verdict that carries 0, 0
--     placeless_test, placeless_last     a test before others, and the last one
--     placeless_query, placeless_lists   those of the two heads
--     placeless_verdict                  that of the read of lists
-- Assumes nothing.
use Rattle.std.specs.Prelude.{◌≡◌, refl, ◌||◌, Bool, true, false, not, List, ℕ, ◌-◌, ◌*◌, eqb, ltb, length}
use Rattle.model.specs.Refusals.{Verdict, accepted, refused, ◌when◌, ◌then◌, short, wrong_size}
use Rattle.model.specs.Answers.{told}
use Rattle.model.specs.Records.{byte, quad, query_head, lists_m, lists_n, lists_head, lists_verdict}
use Rattle.heads.specs.Heads.{query_says, query_from_12, query_from_13, query_from_11, lists_says, lists_from_11, lists_from_12, lists_from_1, lists_from_13}

-- it carries 0, 0
abbrev pub Placeless : Verdict → Type 0
Placeless v = ((told v).list ≡ 0) × ((told v).position ≡ 0)

pub placeless_test : (x : ℕ) (b : Bool) (later : Verdict) → Placeless later → Placeless (x when b then later)
placeless_test x true later h = (refl, refl)
placeless_test x false later h = h

pub placeless_last : (x : ℕ) (b : Bool) → Placeless (x when b)
placeless_last x true = (refl, refl)
placeless_last x false = (refl, refl)

placeless_then : (v w : Verdict) → Placeless v → Placeless w → Placeless (v then w)
placeless_then accepted w h g = g
placeless_then (refused x i p) w h g = h

pub placeless_query : (b : List ℕ) → Placeless (query_head b)
unfolding query_head
placeless_query b =
    placeless_test 10 (ltb (length b) 9) (query_from_12 b)
    (placeless_test 12 (not (eqb (byte b 4) 1)) (query_from_13 b)
    (placeless_test 13 (not (eqb (quad b 0) (query_says b))) (query_from_11 b)
    (placeless_last 11 (ltb (length b - 4) (quad b 0)))))

pub placeless_lists : (b : List ℕ) → Placeless (lists_head b)
unfolding lists_head
placeless_lists b =
    placeless_test 10 (ltb (length b) 8) (lists_from_11 b)
    (placeless_test 11 (not (eqb (quad b 0) (length b - 4))) (lists_from_12 b)
    (placeless_test 12 (not (eqb (byte b 4) 1)) (lists_from_1 b)
    (placeless_test 1 (wrong_size (lists_m b) (lists_n b)) (lists_from_13 b)
    (placeless_last 13 (not (eqb (quad b 0) (lists_says b)))))))

pub placeless_verdict : (b items scores : List ℕ) → Placeless (lists_verdict b items scores)
unfolding lists_verdict
placeless_verdict b items scores =
    let both = short (lists_m b * lists_n b) items || short (lists_m b * lists_n b) scores in
    placeless_then (lists_head b) (6 when both) (placeless_lists b) (placeless_last 6 both)
