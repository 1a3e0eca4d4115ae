-- What shapes take in an image.
pub mod Measures
-- The elements of arrays, and those that are too large.
pub mod Elements
-- The measures of structs, as the definitions see them.
pub mod MeasuresSeen
-- The entries of shapes, written one after another.
pub mod Places
-- Shapes whose leaves stand at places of 16 bits.
pub mod Fitting
-- The constants of a program's operands.
pub mod Constants
-- The parts of the file that a parsed text is assembled to.
pub mod AssembledParts
-- Where the statements of a program's blocks begin.
pub mod Starts
-- The first table entries of shapes, and the return variables of blocks.
pub mod Firsts
-- What is known of a program where its operands' words are told.
pub mod NumbersSeen
-- Statements whose long forms can be written.
pub mod Codable
-- Defaults, written one leaf after another.
pub mod Defaults
-- The rows and the bytes of lists, written one after another.
pub mod Lists
-- Programs that can be assembled.
pub mod Sound
