-- What the crates above may use: laws of the layout of a file.

-- Each file is refused by a first rule of its table and data, or breaks none and has its variables' shapes.
pub mod Decided
-- A file's variables have one list of shapes, and start as one list of values.
pub mod OneStart
-- The spans of an element are those of its leaves, whatever the strides of its lists.
pub mod LeafSpans
-- The leaves of an accepted file are apart and fit.
pub mod Spans
-- The variables of an accepted file start with some values.
pub mod SomeStart
-- How many rows a file's table has, whatever the strides.
pub mod Rows
