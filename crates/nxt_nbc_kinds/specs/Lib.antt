-- Structs that convert to one another.
pub mod ConvertingStructs
-- The kinds of types that convert.
pub mod Kinds
-- What the program's operands are seen as.
pub mod OperandsSeen
-- What types are made of.
pub mod TypeParts
