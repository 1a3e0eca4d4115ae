-- What holds of the table and the data of every assembled text.

-- Each shape's entries spell it.
pub mod Spelled
-- A table whose leaves stand by size breaks no rule of tables.
pub mod TableKept
-- Shapes of variables that the rules of texts allow.
pub mod Parts
-- The table of the parts of an assembled text breaks no rule.
pub mod TableAccepted
-- What the dataspace of an assembled text holds.
pub mod Dataspace
-- The parts of an assembled text keep the rules of layout, and start with its values.
pub mod Accepted
