-- The program of a generated text keeps the rules of the assembler.

-- What the operands of the program add to its table.
pub mod Constants
-- Its sizes.
pub mod Sizes
-- It breaks no rule of the assembler.
pub mod Rules
