-- Worked values of the definitions.

-- Worked values of the operators.
pub mod Arithmetic
-- Worked shapes: a group of a number and a text, and a list of texts.
pub mod Shapes
-- Worked words.
pub mod Statements
