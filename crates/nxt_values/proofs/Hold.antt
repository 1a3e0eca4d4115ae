-- How the lists of a heap hold values.

-- What a value depends on: the bytes in its spans and the lists of its rows.
pub mod Frames
