-- Layouts that keep the laws go over into layouts that keep them.

-- Blocks without gaps, and blocks that get shorter in their places.
pub mod Blocks
-- Whatever a bytecode or a compaction does.
pub mod Lawful
