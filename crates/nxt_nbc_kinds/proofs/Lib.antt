-- What holds of the operands of every text.
pub mod Laws
-- Shapes that convert to one another convert to the same shapes.
mod ConvertingShapes
-- Shapes for kinds, and types of these kinds.
mod KindShapes
-- Which kinds of structs are known.
mod KnownKinds
-- The kinds of types, one after another.
mod KindsInTurn
-- The derived tests of kinds are those of the definitions.
mod DerivedTests
-- Types convert to one another where they are of one kind.
mod TypesByKind
-- Tests of types by their bases and arrays.
mod TypeTests
-- The struct at a position behind those before it.
mod StructsAt
-- The clusters of system calls by their members.
mod Clusters
-- What is asked of an operand beside the others.
mod Beside
-- What the operands of a statement are, one after another.
mod SortsInTurn
-- The name of mutexes is that of a mutex alone.
mod MutexTypes
-- The least operand that a test finds, counted from 1.
mod LeastOperands
