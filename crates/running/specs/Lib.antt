-- The run of a search once its tests are passed.
--     Clauses        which search a number means, and what the run of it promises
pub mod Clauses
