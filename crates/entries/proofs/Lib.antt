-- Laws that the proofs of this crate cite.
--     Noted    what is promised of one list, from its verdict
--     Walk     one list, position by position
mod Noted
mod Walk
