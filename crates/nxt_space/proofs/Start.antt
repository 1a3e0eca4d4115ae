-- The variables at the start.

-- The variables of an accepted file are made at their start.
pub mod Made
-- Flat forms of what a file's memory reads as, element by element and member by member.
pub mod FlatForms
-- The variables of a table, one after another.
pub mod Shapes
