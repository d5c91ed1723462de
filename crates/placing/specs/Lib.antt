-- Rows of structs, filled from a shortlist's columns.
--     Rows           rows from columns, and rows written over rows as lent
--     Counts         how many rows are written, and for how many a search is lent room
pub mod Rows
pub mod Counts
