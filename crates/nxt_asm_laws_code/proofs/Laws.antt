-- What holds of the code of every assembled text.

-- The entries of operands name their parts.
pub mod Operands
-- The statements of a program's code are those of its blocks.
pub mod Decoded
-- The landings of jumps.
pub mod Landings
-- What the operands of an accepted text name is there.
pub mod OperandsThere
-- The code of an accepted text is accepted.
pub mod Accepted
-- The operands of an accepted text are of the classes that their words are read by.
pub mod OperandsSuit
