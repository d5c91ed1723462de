-- Laws that the proofs of this crate cite.
--     Lent       the k greatest marks in the first part of the highs
--     Reading    what the code reads is what the definitions say; the run as a whole
mod Lent
mod Reading
