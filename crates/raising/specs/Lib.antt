-- The k greatest of the items' marks.
--     Clauses        the records that the functions' contracts cite
--     Floor          the least of the k greatest tells the k-th low; before any row all is zero
pub mod Clauses
pub mod Floor
