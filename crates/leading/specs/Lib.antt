-- What is kept from row to row.
--     Clauses        the records that the functions' contracts cite
pub mod Clauses
