-- NRA's shortlist.
--     Clauses        the records that the functions' contracts cite
pub mod Clauses
