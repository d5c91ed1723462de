-- Laws that the proofs of this crate cite.
--     Found        one number more, where one that passes a test is looked for
--     Most         the greatest of some numbers, as `max` picks it
--     Next         one number more, where the greatest is kept
mod Found
mod Most
mod Next
