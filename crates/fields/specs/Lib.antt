-- The fields of the previewer's lines, written into a lent slice of bytes.
--     Clauses        the record that the functions' contracts cite
--     Appending      laws of text appended: nothing, one byte, one text after the other; the result is the only one
--     Numbers        a number's text: its digits as the kit's `io` writes them, and how many there are
pub mod Clauses
pub mod Appending
pub mod Numbers
