-- What TA, BPA and BPA2 note: visits in the tally, items in the shortlist.
--     Clauses        the records that the contracts of the functions cite
--     Shortlists     the shortlist that is written into
pub mod Clauses
pub mod Shortlists
