-- Statements one behind another in the code.

-- Whether a statement begins at a whole number, by the number of statements before it.
pub mod Begun
-- Statements decoded one after another are the statements of the code.
pub mod Decoded
-- The first statement that passes a test, and the last one.
pub mod FirstAndLast
-- What the marks of first words tell of the code's words.
pub mod Marks
-- How many of the code's statements begin before a word, and which one begins there.
pub mod Numbers
-- Statements that stand one behind another: where they begin, where they end, and what lies inside.
pub mod Tiled
