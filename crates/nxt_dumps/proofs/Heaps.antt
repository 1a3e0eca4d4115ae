-- Heaps that hold values, and bytes that hold heaps.

-- Places are filled.
pub mod Filling
-- A heap that holds values of their shapes.
pub mod Made
-- The lists of a heap that holds values: whole elements, and lengths.
pub mod Rows
-- Pieces of bytes that stand together.
pub mod Pieces
-- The rows of a table, in their bytes.
pub mod Table
-- The chain of the rows without a list.
pub mod Chain
-- The rows and blocks of a heap whose lists stand at given places.
pub mod Placed
-- Bytes in which the rows and lists of a heap stand.
pub mod Bytes
-- These bytes hold the heap.
pub mod Holds
