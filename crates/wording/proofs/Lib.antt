-- Laws that the proofs of this crate cite.
--     Writing        the line of an answer, written
mod Writing
