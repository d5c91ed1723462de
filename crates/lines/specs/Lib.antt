-- The lines of the searches: what they are made of, and what their making promises.
--     Clauses        the records that the functions' contracts cite
--     Alike          what a search answers does not depend on what stands in the slices to be written
--     Lines          the line of a search, from what the search promises
pub mod Clauses
pub mod Alike
pub mod Lines
