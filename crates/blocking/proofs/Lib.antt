-- Laws that the proofs of this crate cite.
--     Obstacles  what the items asked tell of NRA's test
--     Parts      the items met, asked in two parts
mod Obstacles
mod Parts
