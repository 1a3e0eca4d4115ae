-- What the crates above may use: laws of the lists of a heap.

-- A list of bytes cut or filled up with zeros.
pub mod Lengths
-- What a heap takes of the pool, where one list changes.
pub mod Footprints
-- Blocks that stay.
pub mod Moves
-- The table right above the static bytes, and a pool without gaps.
pub mod Front
