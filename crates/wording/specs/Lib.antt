-- The line of an answer: what it is, and what its writing promises.
--     Clauses        the names of the searches, the line, and the records that the functions' contracts cite
pub mod Clauses
