-- Laws that the proofs of this crate cite.
--     Items      the items one after the other
mod Items
