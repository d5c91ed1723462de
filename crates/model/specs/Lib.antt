-- The specification (docs/SPECIFICATION.md) as definitions, and nothing else. Each computes, and holds for every input, damaged ones too.
--     Words      the few words that the other files are written with
--     Given      what a search is given: the pose set, the query, the overall score
--     Accesses   sorted, direct and random accesses; the rows of TA, BPA and NRA and the rounds of BPA2; what is read off them
--     Searches   low, high, thresholds, the order of the shortlist, the stopping row; TA, BPA, BPA2, NRA
--     Refusals   the numbers 1 to 9 and their order, for a search and for the list check by itself
--     Answers    what a search and the list check give back, and what each lent slice holds afterwards
--     Records    the query record and the list record, their refusals and their order, the chosen weights
--     Program    the previewer's program: the text that it prints for its input
-- Inside, lists, positions and items count from 0. Where the page counts from one, in an answer, in a refusal and in the
-- work slice, one is added there and nowhere else.
pub mod Words
pub mod Given
pub mod Accesses
pub mod Searches
pub mod Refusals
pub mod Answers
pub mod Records
pub mod Program
