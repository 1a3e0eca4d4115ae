-- Programs and machines that are made.

-- How many statements code has.
pub mod Counts
-- A statement that is prepared stands for that of the words.
pub mod Readied
-- What the rules of accepted code say of its clumps and operands.
pub mod Accepted
-- The clumps that statements of accepted code name.
pub mod Named
-- The plans that are made of the records of clumps.
pub mod Planned
-- The first state of a machine.
pub mod AtStart
-- The shapes of a layout spell its table.
pub mod Entries
