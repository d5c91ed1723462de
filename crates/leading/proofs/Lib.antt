-- Laws that the proofs of this crate cite.
--     Rows       marks from row to row, and within a row from list to list
--     Entries    the item at a row of a list
mod Rows
mod Entries
