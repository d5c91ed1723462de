-- One list of the list check.
--     Clauses        the records that the functions' contracts cite
--     Cleared        a slice whose start is set to 0
pub mod Clauses
pub mod Cleared
