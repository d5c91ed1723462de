-- What the four searches owe beyond their definitions, for every valid pose set: they stop by their own tests, return the
-- best, and so compare in rows and accesses. Promise.antt says all of it, and Promised.antt ends in the theorem.
--     Promise    all that is claimed
--     Promised   that it holds
-- How it is shown, with the laws of rows, rounds and their accesses (`laws`):
--     Stopping   what any search returns where it stops
--     Scores     TA, BPA and BPA2 in one
--     Compared   TA, BPA and BPA2 row by row
--     Bounds     NRA's bounds
pub mod Promise
pub mod Promised
pub mod Stopping
pub mod Scores
pub mod Compared
pub mod Bounds
