-- One bytecode of the plain machine, and several.

-- Several events are some and then the others.
pub mod Runs
-- What the first of the queue runs.
pub mod Fetched
-- What stands in a list that is stored in.
pub mod Stored
-- The clumps of a turn.
pub mod Turns
-- A statement within a turn that is no matter of clumps and tells nothing.
pub mod Plain
-- Statements on numbers, one behind another.
pub mod Numbers
-- A statement on an element of a list within a turn.
pub mod Elements
-- Events from outside.
pub mod Events
-- Statements behind which the program goes on.
pub mod Ends
-- Bytecodes that tell nothing.
pub mod Silent
-- Statements on numbers alone that tell nothing.
pub mod OnNumbers
