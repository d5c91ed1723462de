-- What stands in the way of stopping after a row.
--     Clauses        the records that the functions' contracts cite
pub mod Clauses
