-- Laws that the proofs of this crate cite.
--     Filling    the closed form, list by list
mod Filling
