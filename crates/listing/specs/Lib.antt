-- The places of a shortlist as text.
--     Clauses        the records that the functions' contracts cite
--     Reaching       text after text, and the room that is left
--     Places         the text of a shortlist's places, and the shortlist that three slices hold
pub mod Clauses
pub mod Reaching
pub mod Places
