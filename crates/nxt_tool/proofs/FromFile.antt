-- From a file to its program.

-- A fault on the way from a file to its program has its cause.
pub mod Faults
-- What holds of the parts of a file that breaks no rule, by their layout.
pub mod Parts
-- The machine that is made of an accepted file.
pub mod Machine
