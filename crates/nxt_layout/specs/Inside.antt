-- What the passes over the rows compute: definitions that no caller needs.

-- What the passes over a file's rows compute.
pub mod RowPasses
-- What is found in the elements of rows, and kept for the next time.
pub mod Known
-- The passes that find the first fault of the rows and of the pool.
pub mod Passes
