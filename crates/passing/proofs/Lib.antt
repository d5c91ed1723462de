-- Laws that the proofs of this crate cite.
--     Rows     the sweeps list by list
--     Whole    all lists at once
mod Rows
mod Whole
