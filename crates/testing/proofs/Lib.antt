-- Laws that the proofs of this crate cite.
--     Heavy     a weight above 1,000 is found
mod Heavy
