-- What holds of the programs of every text.
pub mod Laws
-- The first of numbers, and lists of numbers with one more.
mod Numbers
-- The number of a block is below how many they are.
mod BlockNumbers
-- The links of blocks, with one block more.
mod LinkLists
-- Operands by the classes of their positions.
mod ArgLists
-- The statements of blocks, line by line.
mod Bodies
