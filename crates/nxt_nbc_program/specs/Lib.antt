-- The program's structs and variables, as the definitions see them.
pub mod TypesSeen
-- Which threads lower which.
pub mod Links
-- The program's links between threads, as the definitions see them.
pub mod LinksSeen
-- What a program counts fits in its fields.
pub mod Fits
-- Classes of operands.
pub mod Classes
