-- NRA's test after a row.
--     Bar            NRA's test by a bar
--     Clauses        the records that the functions' contracts cite
--     Gathering      the items met, gathered in a slice
--     Marks          items' lows as marks, and the test by the k-th of them
pub mod Bar
pub mod Clauses
pub mod Gathering
pub mod Marks
