-- What the crates above may use: laws of the plain machine.

-- Two programs whose statements do the same run alike.
pub mod Alike
-- And what the second may tell, dumps and all, the first may tell.
pub mod AlikeReports
-- Compaction between any two bytecodes changes nothing but dumps.
pub mod Compaction
-- Statements that are no matter of clumps.
pub mod PlainStatements
-- A pool reads as at most one list of values.
pub mod Reading
-- Laws of runs and reports.
pub mod Reports
-- Laws of values: lists of them, parts and flat forms.
pub mod Values
-- A value's flat form spells it alone.
pub mod Flat
-- Numbers that are read from bytes are of their kind.
pub mod Numbers
-- The shapes of structs, with one struct more.
pub mod StructShapes
