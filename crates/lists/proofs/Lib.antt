-- Laws that the proofs of this crate cite.
--     Rows     the lists, one after the other
--     Swept    all lists at once
--     Whole    the tests of the shape, and the whole check
mod Rows
mod Swept
mod Whole
