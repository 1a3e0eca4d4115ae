-- What the crates above may use: laws of the blocks of a pool, by its rows, and of their moves.

-- Rows of a table that stands somewhere else.
pub mod Shifted
-- Rows and blocks: the list of blocks, and soundness by rows.
pub mod InPool
-- The next block of a pool, by place.
pub mod Next
-- A block that moves down.
pub mod Moving
-- Moves one after another, and the loop of a compaction.
pub mod Going
-- The blocks after a move.
pub mod Compacted
-- Room behind a block.
pub mod Opening
