-- What a row or round is judged by.
--     Clauses        the records that the functions' contracts cite
pub mod Clauses
