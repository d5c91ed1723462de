-- What the contracts of `sweeps` cite.
--     Clauses        the two records
pub mod Clauses
