-- What holds of every generated text.
pub mod Laws
-- How a generated text is read: its tokens and lines.
mod Reading
-- What a generated text declares, and the program that it spells.
mod Declared
-- A generated text keeps the rules of texts.
mod Keeping
-- The program of a generated text keeps the rules of the assembler.
mod Fitting
