-- The searches into rows.
--     Clauses        the records that the functions' contracts cite
--     Promises       what they promise to whoever calls them
pub mod Clauses
pub mod Promises
