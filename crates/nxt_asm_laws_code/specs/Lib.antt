-- The statements of a program's code, each with its word.
pub mod Placed
-- Operands whose parts and constants are there.
pub mod There
-- Blocks whose code keeps the rules.
pub mod Kept
-- The lines of blocks.
pub mod Lines
-- Operands of the classes that their words are read by.
pub mod Suits
