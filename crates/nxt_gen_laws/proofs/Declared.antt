-- What a generated text declares, and the program that it spells.

-- The forms of the lines.
pub mod Forms
-- What the text declares.
pub mod Sources
-- What the operands stand for.
pub mod Names
-- The program.
pub mod Programs
