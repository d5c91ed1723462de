-- Laws that the proofs of this crate cite.
--     Visiting     visits in one list after the other; the walk to a best position
mod Visiting
