-- What holds of every generated text.

-- It keeps the rules of texts and of the assembler.
pub mod Generated
