-- What holds of the program of every text that keeps the rules.

-- What holds of each element of a list, from one element to the next.
pub mod Lists
-- Forms that pass a test, whatever gives them.
pub mod Perhaps
-- What holds of the forms of every text's lines.
pub mod Forms
-- The forms of every text's lines and blocks.
pub mod Lines
-- The structs of a text: their members have types of structs before them.
pub mod Types
-- The parts that names of members lead to have entries among those of the whole.
pub mod Paths
-- What the lines of a text keep, where no rule is broken.
pub mod Kept
-- Starts that have the forms of their types.
pub mod Starts
-- What holds of parts, blocks, numbers, types and what is missing holds of all that names stand for.
pub mod Denoted
-- What operands name is declared, with an entry among the variable's own.
pub mod Named
-- Immediates and numbers of blocks have as many bits as their types.
pub mod Short
-- Statements of blocks that have long forms.
pub mod Blocks
-- Blocks have fewer than 256 dependents, and are as many as the text's.
pub mod Dependents
-- The structs and variables of a text that keeps the rules.
pub mod Source
-- Programs that the tokens of texts spell can be assembled.
pub mod Programs
-- The program of a text that keeps all rules can be assembled.
pub mod Texts
-- Blocks are lowered fewer than 256 times before they are queued.
pub mod Fires
