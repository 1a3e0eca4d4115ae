-- Texts by marks, and the lines that they have.
pub mod Marks
-- The statements of generated texts, one a line.
pub mod Rows
-- The lines in front of the statements.
pub mod Head
-- The program that a text of statements spells.
pub mod Spelled
