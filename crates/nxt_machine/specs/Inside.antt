-- How a machine is kept, and what its parts do: definitions that no caller needs.

-- A program with its code prepared.
pub mod Programs
-- What a statement does, clumps aside, and what it does to clumps.
pub mod Statements
-- Which statements may stop the program.
pub mod Stopping
-- The statements of a turn that were prepared.
pub mod Turns
-- What stays where it is in the pool, by the parts that are written.
pub mod Keeping
