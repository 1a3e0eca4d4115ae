-- What a fault of `lex` tells of a text.
pub mod Lexed
-- Numbers as they are held.
pub mod Held
-- Words and forms as the definitions see them.
pub mod Seen
-- Statements by their operation, and labels.
pub mod Statements
-- The forms of a place, by the words that tell them apart.
pub mod Places
-- Lines as they are read one after another.
pub mod Lines
-- The first form that breaks a rule, and the rules that are kept.
pub mod Firsts
-- Lines that have as many operands as they may have.
pub mod Whole
