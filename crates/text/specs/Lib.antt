-- The previewer's lines, written into a lent slice of bytes.
--     Names          the names of the searches
--     Lines          how long a line is at most
pub mod Names
pub mod Lines
