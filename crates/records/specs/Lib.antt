-- What the reads of the two records and the choice of the weights promise.
--     Clauses        the records that the functions' contracts cite
--     Held           what a record keeps that passes its tests
--     Placeless      a refused record is met at no position of the lists
--     Choice         the chosen part by its cases, and how long it is
--     Settled        what follows for a caller: each answer is the only one, and what an accepted read keeps
pub mod Clauses
pub mod Held
pub mod Placeless
pub mod Choice
pub mod Settled
