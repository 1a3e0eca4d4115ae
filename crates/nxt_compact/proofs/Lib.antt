-- What the crates above may use.
pub mod Laws
-- Keys in order.
mod Ordered
-- Blocks that move up, and room behind a block.
mod Lifting
