-- NRA: what its run promises, and the laws that it rests on.
--     Depth          after p rows the first p positions of each list are visited
--     Stops          the row after which NRA stops
--     Clauses        the record that the contract cites
pub mod Depth
pub mod Stops
pub mod Clauses
