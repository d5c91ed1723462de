-- Tests of a search that ask about one thing each.
--     Clauses        the definitions that the functions' contracts cite
--     Weights        what stands past the last weight
pub mod Clauses
pub mod Weights
