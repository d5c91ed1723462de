-- What the filling of a slice promises.
--     Clauses        the records that the function's contract cites
pub mod Clauses
