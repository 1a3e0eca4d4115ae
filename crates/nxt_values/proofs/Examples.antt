-- Worked heaps.

-- A worked heap: a cluster of a number and of a list of two lists.
pub mod Heap
-- A worked table: a cluster of a number and of a list of lists.
pub mod Spans
