-- The entries of a table, and the variables that they spell.

-- What the entries of a shape do in a table, and variables one behind another.
pub mod Spelled
-- A table's variables, and the place at which it is open, by what the pass over it finds.
pub mod Variables
-- What the first place that is found says.
pub mod First
-- A table that is open, and where.
pub mod Open
-- A table that isn't open spells whole variables.
pub mod Closed
