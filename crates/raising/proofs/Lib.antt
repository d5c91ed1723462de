-- Laws that the proofs of this crate cite.
--     Slid       the entries of a slice into which a value was slid
--     Raising    the k greatest once one mark is raised
mod Slid
pub mod Raising
