-- The answer of a search.
--     Clauses        what it is made from
pub mod Clauses
