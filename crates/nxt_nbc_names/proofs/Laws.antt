-- What holds of the declarations of every text.

-- The order of blocks by their numbers is that of the definitions.
pub mod Blocks
