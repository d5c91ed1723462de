-- Laws that the proofs of this crate cite.
--     Copied         one list's start written over another's
mod Copied
