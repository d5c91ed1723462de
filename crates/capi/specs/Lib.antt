-- What the functions promise that C calls.
--     Settled        any two results that meet a promise coincide; the part of the weights is the one that `records` returns
pub mod Settled
