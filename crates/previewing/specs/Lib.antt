-- The previewer's text, and what its making promises.
--     Clauses        the records that the functions' contracts cite
--     Cases          the text by cases: a refused query, refused lists, and what the searches are lent
--     Settled        what follows for a caller: the result is the only one
pub mod Clauses
pub mod Cases
pub mod Settled
