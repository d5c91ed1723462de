-- Laws that the proofs of this crate cite.
--     Printing       text at the start of a slice
mod Printing
