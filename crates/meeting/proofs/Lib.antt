-- Laws that the proofs of this crate cite.
--     Moving       entries moved one place on, and a value put in
--     Products     a local score, or what stands for one that is not read, times a weight
mod Moving
mod Products
