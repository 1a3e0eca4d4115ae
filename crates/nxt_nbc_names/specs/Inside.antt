-- How names, structs and blocks are kept: definitions that no caller needs.

-- How names are kept by their positions.
pub mod Names
-- How the structs of a text are kept.
pub mod Structs
-- How the blocks of a text are kept.
pub mod Blocks
