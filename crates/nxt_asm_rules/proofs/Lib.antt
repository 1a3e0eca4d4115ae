-- What holds of every program that keeps the rules of the assembler.
pub mod Laws
-- Rows and lists whose numbers have 16 bits.
mod SmallLists
-- The words of code without far jumps have 16 bits.
mod NarrowCode
-- An empty program, and one array, assembled.
mod AssembledRows
