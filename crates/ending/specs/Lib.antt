-- The row after which NRA stops.
--     Clauses        the records that the functions' contracts cite
pub mod Clauses
