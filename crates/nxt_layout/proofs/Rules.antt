-- The first broken rule at its least place.

-- The passes over the numbers of arrays find the first that names no row, and the first row that two lists name.
pub mod Rows
-- Where the table breaks no rule, the passes over rows and pool find the first broken rule at its least place.
pub mod FirstBroken
-- The passes over the strides, the places and the overlaps of rows find the first place where their rule is broken.
pub mod RowBytes
-- What the passes find is broken, and an accepted file has its layout.
pub mod Found
