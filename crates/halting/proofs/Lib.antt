-- Laws that the proofs of this crate cite.
--     Blocks     whether an item stands in the way
--     Counting   a count that a test is added to as a number
mod Blocks
mod Counting
