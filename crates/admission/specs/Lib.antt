-- The tests of a search before it runs.
--     Clauses        the records that the functions' contracts cite
--     Shapes         the tests as laws: what they let pass
--     Passing        what a search may rest on once they are passed
pub mod Clauses
pub mod Shapes
pub mod Passing
