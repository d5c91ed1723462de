-- What the searches share.
--     Clauses        the records that the functions' contracts cite
--     Sliding        a value slid into the first k of a slice is put in there
--     Shortlist      the shortlist while items are put in, and what an insertion promises
--     Keeping        an item into a shortlist of at most k
pub mod Clauses
pub mod Sliding
pub mod Shortlist
pub mod Keeping
