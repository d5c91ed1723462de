-- TA, BPA and BPA2: their loop over rows or rounds.
--     Run            the three searches by their numbers; what a run asks and promises
pub mod Run
