-- Right dumps of a content.

-- The lists that a pool reads as: their lengths and strides.
pub mod Read
-- The blocks of a dump, and its layout.
pub mod Blocks
-- A layout that a right dump shows.
pub mod Shown
-- A heap whose lists stand as a layout tells.
pub mod Laid
-- A right dump for a layout.
pub mod Found
