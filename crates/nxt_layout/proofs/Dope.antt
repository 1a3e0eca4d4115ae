-- Dope rows: which are named, and what is found through them.

-- Open arrays, and the elements of rows, row by row.
pub mod Named
-- The first row with elements, and the first one with another stride, tell which rows are read.
pub mod Strides
-- What is found through a table's arrays: their entries rise, and stand below the table's end.
pub mod Arrays
-- What is found through one array.
pub mod Through
-- The lists that are found, by the rows that the arrays' numbers name: each row that is reached is held as often.
pub mod Counts
-- The rows that are found through arrays, where each is kept at most twice, agree with those that are reached.
pub mod Reached
-- The pass over a file's arrays finds what is read through each, where each row is kept at most twice.
pub mod Scanned
-- Lists of numbers that agree in which of them pass a test: none, one or many.
pub mod NoneOneMany
-- Searches and sums over the rows of a table, row by row.
pub mod Searches
-- Spans that follow one another share no byte, and the span of a row.
pub mod Spans
-- Lists of numbers in order, each as often as a function tells.
pub mod InOrder
-- How many elements stand at places, and what the numbers there tell.
pub mod Places
-- What is kept stays right with one more.
pub mod Kept
-- What is told of arrays, array by array.
pub mod Told
-- The first pair of spans that share a byte.
pub mod FirstOverlap
