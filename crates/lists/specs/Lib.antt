-- What the list check promises.
--     Clauses        the records that the functions' contracts cite
--     Promises       what follows for a caller: the answer is the only one, and what accepted lists keep
pub mod Clauses
pub mod Promises
