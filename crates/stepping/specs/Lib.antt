-- One row of TA and BPA, one round of BPA2.
--     State          the state of a search: the slices, against the accesses made so far; the records that the contracts cite
--     Steps          steps from one state to the next, and what meeting an item asks
--     Best           the best positions that the tally slice tells
pub mod State
pub mod Steps
pub mod Best
