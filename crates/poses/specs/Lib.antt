-- The types that all crates share.
--     Methods        a search by its number
--     Refusals       a refusal's number, list and position
--     Rules          a rule's number
--     Sets           what is lent, as the model has it
pub mod Methods
pub mod Refusals
pub mod Rules
pub mod Sets
