-- What the crates above may use: laws of a file's table.

-- The leaves that the passes go over are the table's.
pub mod Leaves
-- Passes one after another, of which the first that finds a fault tells it.
pub mod Passes
-- The dataspace and the spelling don't depend on strides.
pub mod StrideFree
-- The bytes that the passes lay out are the dataspace.
pub mod Dataspace
-- The shapes that are made from the last entry to the first are the table's.
pub mod Shapes
-- What the passes over a table find is the first broken rule at its least place.
pub mod FirstBroken
-- The marks of a table are those of its sites.
pub mod Enclosed
-- The entries of leaves rise.
pub mod Rising
-- A table has one list of shapes.
pub mod OneTable
-- What the passes over a table find is broken, and each table is refused by a first rule or keeps them.
pub mod Decided
