-- What the tests of a record are.
--     Heads          the tests of each record, from each of them on
pub mod Heads
