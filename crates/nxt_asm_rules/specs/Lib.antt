-- When a parsed text isn't assembled.
pub mod AsmRules
-- The pool's bytes at the start, counted from what is declared.
pub mod StartBytes
-- Rules of the assembler that are kept one after another.
pub mod Kept
-- Parts that fit in a file.
pub mod Fits
