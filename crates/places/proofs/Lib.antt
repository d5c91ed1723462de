-- Laws that the proofs of this crate cite.
--     Owing          from a search into columns to what it owes in rows
mod Owing
