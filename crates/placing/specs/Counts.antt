-- How many rows are written, and for how many a search is lent room.
--     enough_of       k, or none where the search is refused
--     lesser_of       as many as rows are lent, and 1,024 at most
-- Assumes nothing.
use Rattle.std.specs.Prelude.{cond, ℕ, eqb, ltb}

-- k rows are written, and none where the search is refused
abbrev pub enough_of : ℕ → ℕ → ℕ
enough_of number k = cond (eqb number 0) k 0

-- as many places as rows are lent, and 1,024 at most
abbrev pub lesser_of : ℕ → ℕ
lesser_of room = cond (ltb room 1024) room 1024
