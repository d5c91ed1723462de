-- What the function promises that tells a search's answer.
--     Told           the numbers of an answer in their order, and what is promised of them
pub mod Told
