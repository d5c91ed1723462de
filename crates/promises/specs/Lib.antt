-- What is promised of the four functions, about what they return and leave in their slices: through their contracts alone.
--     Calls      an accepted call of a search; all that is claimed of one, and of the four together
--     Kept       that it holds
--     Accepted   that "accepted" is exactly the number 0, and A to E are
pub mod Calls
pub mod Kept
pub mod Accepted
