-- How names, structs and blocks are kept: definitions that no caller needs.
pub mod Inside
-- How much a type holds.
pub mod Extents
-- The names of NXTDefs.h, as the program has them.
pub mod HeaderSeen
-- The lines on which the structs of a text are types.
pub mod Structs
-- The program's members of structs, as the definitions see them.
pub mod MembersSeen
-- The program's structs, as the definitions see them.
pub mod StructsSeen
-- The program's labels, as the definitions see them.
pub mod LabelsSeen
-- The program's variables, as the definitions see them.
pub mod VariablesSeen
-- The order of blocks by their numbers.
pub mod Blocks
-- The program's blocks, as the definitions see them.
pub mod BlocksSeen
-- The names that a text declares, as the definitions see them.
pub mod NamesSeen
-- What a text declares, as the definitions see it.
pub mod SourceSeen
-- What an operand of the program stands for, as the definitions see it.
pub mod DenotedSeen
