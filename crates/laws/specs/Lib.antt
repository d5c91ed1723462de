-- What follows from the definitions of `model`.
--     Tests      laws of `first`, `some_below` and `every_below`
--     Lists      laws of `row`, `table`, `count` and `over`
--     Verdicts   laws of the tests that are made one after the other
--     Marks      items noted one position after the other, each once: then each item is noted
--     Accepted   what an accepted pose set keeps: `Valid`
--     Lookups    what one lookup adds to the accesses made
--     Meetings   accesses made of whole lookups: an item is visited in all lists or in none
--     Sums       the three counts add up to the sum of the tally
--     Visits     best positions, and the first p positions of every list
--     Looked     how many accesses of each kind whole lookups make
--     Rows       the rows of TA and BPA: what they visit, at most m times
--     Rounds     the rounds of BPA2: no position twice, and how far they reach
--     Passing    how many of the numbers below n pass a test
--     Ahead      the order of the shortlist is a strict total order
--     Ranking    laws of `insert` and `ranked`, for any order
--     Kept       the first k items of a ranking
--     Overall    laws of the overall score: monotone; at most 524,280,000
--     Opened     one name that opens all definitions of a search
--     Cases      the worked cases as a search is lent them, and how a table of answers is tested
--     SixteenRows, OtherCases, RefusedCases      the tables
--     RecordCases    the two records and the chosen weights on small inputs, computed
--     ProgramCases   the previewer's program on small inputs, computed
pub mod Tests
pub mod Lists
pub mod Verdicts
pub mod Marks
pub mod Accepted
pub mod Lookups
pub mod Meetings
pub mod Passing
pub mod Ahead
pub mod Ranking
pub mod Kept
pub mod Overall
pub mod Sums
pub mod Visits
pub mod Looked
pub mod Rows
pub mod Rounds
pub mod Opened
pub mod Cases
pub mod SixteenRows
pub mod OtherCases
pub mod RefusedCases
pub mod RecordCases
pub mod ProgramCases
