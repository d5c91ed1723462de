-- Laws that the proofs of this crate cite.
--     Writing        the line of a search
--     Turns          the lines of the searches so far, and one more
mod Writing
mod Turns
