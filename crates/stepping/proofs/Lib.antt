-- Laws that the proofs of this crate cite.
--     Meetings     an item is met: its score, the tally and the ranking afterwards
--     Turning      a turn of BPA2 at a list, and a round as its turns
mod Meetings
mod Turning
