-- Laws that the proofs of this crate cite.
--     Reading    the ways out of the two reads
--     Choosing   the ways out of the choice of the weights
mod Reading
mod Choosing
