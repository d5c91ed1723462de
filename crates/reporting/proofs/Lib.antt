-- Laws that the proofs of this crate cite.
--     Telling        from what a function beneath promises to what is told of it
mod Telling
