-- What the four searches promise.
--     Answered       what a search promises of its answer and of the slices
--     Shortlists     the three slices of a shortlist, read off its places
--     Promises       what they promise to whoever calls them
pub mod Answered
pub mod Shortlists
pub mod Promises
