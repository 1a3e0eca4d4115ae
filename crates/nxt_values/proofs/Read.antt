-- Values that are read from a heap.

-- Flat forms that are put together, member by member and element by element.
pub mod Gathered
-- Where parts of values stand.
pub mod Parts
