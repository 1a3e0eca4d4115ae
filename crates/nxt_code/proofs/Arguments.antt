-- Operands, and what is asked of their shapes.

-- Operands by position.
pub mod ByPosition
-- Tests of shapes by their parts.
pub mod ShapeTests
-- What is kept of shapes stays right with one answer more.
pub mod KnownShapes
