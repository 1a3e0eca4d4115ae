-- How a space is kept in its heap: definitions that no caller needs.

-- The variables as a heap keeps them.
pub mod Kept
-- The memory of a file at the start.
pub mod Starts
