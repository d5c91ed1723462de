-- What is told of the list check, the two reads and the chosen weights.
--     Told           the numbers of each answer in their order, and what each function promises
--     Choosing       the chosen part, told by the bytes of the weights and how many weights the query has
pub mod Told
pub mod Choosing
