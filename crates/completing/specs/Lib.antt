-- What a run tells once its last row is read.
--     Clauses        the record that a contract cites
pub mod Clauses
