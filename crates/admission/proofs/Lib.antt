-- Laws that the proofs of this crate cite.
--     Tested         what `admit` promises, in its two ways
mod Tested
