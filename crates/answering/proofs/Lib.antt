-- Laws that the proofs of this crate cite.
--     Answering      from what the parts of a search promise to what the search promises
mod Answering
