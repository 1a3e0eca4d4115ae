-- What the crates above may use: laws of the definitions.

-- What the table of the operations keeps.
pub mod Opcodes
-- Of candidates in the order of their ranks, each of which can be tested, the first that is broken is the refusal.
pub mod Refusals
-- A table spells at most one list of shapes, strides aside.
pub mod Shapes
-- What a table's list of shapes has at an entry is what the entry names.
pub mod Tables
-- The tree of a group in the program.
pub mod Trees
-- Sizes in the pool.
pub mod Pool
-- Numbers that stand in bytes.
pub mod Bytes
-- Numbers cut to their kind.
pub mod Kinds
