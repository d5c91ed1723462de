-- What the contracts of `passing` cite.
--     Clauses        the records
pub mod Clauses
