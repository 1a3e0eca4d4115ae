-- What the crates above may use: laws of blocks in a pool.

-- Sums over the elements of a list.
pub mod Sums
-- Blocks that share no byte fit the space that holds them.
pub mod Packing
-- Settling the blocks below a place, and the k lowest unsettled ones.
pub mod Settling
-- The lowest block that is unsettled.
pub mod Lowest
-- One turn of a loop over blocks in the order of their places.
pub mod Walking
-- Room for a longer block.
pub mod Growing
