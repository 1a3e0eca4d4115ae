-- A generated text keeps the rules of texts.

-- What the rules ask of a statement's operands.
pub mod Operands
-- The names of the text are declared once.
pub mod Spaces
-- No form is the first that breaks a rule.
pub mod Firsts
-- The text's numbers are held as they are.
pub mod HeldSame
-- A text of small statements keeps the rules, and spells its program.
pub mod Rules
