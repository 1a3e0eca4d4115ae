-- What holds of every program that keeps the rules of the assembler.

-- The least line with a far jump, with one more statement or block at the end.
pub mod FarJumps
-- The first broken rule of a program, and programs that keep all rules.
pub mod FirstBroken
-- A program is refused by a first fault of the assembler, or breaks none of its rules.
pub mod Decided
-- Sums over shapes, of their members one after another.
pub mod Sums
-- What all variables and constants of a program take together.
pub mod Counts
-- The starting values of shapes: their lists and their leaves.
pub mod StartValues
-- The footprint at the start, counted.
pub mod StartFootprint
-- How long the defaults and the lists of shapes with their starting values are.
pub mod DataSizes
-- The parts of a program that keeps the rules of the assembler fit in a file.
pub mod Fitting
-- The parts of the program of a text that keeps all rules are those of a file.
pub mod Files
