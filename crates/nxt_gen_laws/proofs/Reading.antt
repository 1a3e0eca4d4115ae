-- How a generated text is read: its tokens and lines.

-- The lines of marks.
pub mod Pieces
-- Numerals and the names of lists are tokens.
pub mod Numerals
-- The lines of statements.
pub mod Lines
-- The lines of a text of statements.
pub mod Whole
-- A generated text is one of small statements.
pub mod Drawn
