-- Laws that the proofs of this crate cite.
--     Running      from one row or round to the next, whichever of the three searches it is
--     Numbers      a search by a number that is neither 0 nor 2 is BPA
--     Between      the state between two rows or rounds: what the loop of `run` keeps
mod Running
mod Numbers
mod Between
