-- Laws that the proofs of this crate cite.
--     Runs           from what the two kinds of run promise to what the run of a number promises
mod Runs
