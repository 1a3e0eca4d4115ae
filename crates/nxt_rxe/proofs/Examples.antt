-- Worked files.

-- The rules of a file's sections on worked files.
pub mod Rules
-- Four files: bytes that are accepted.
pub mod Images
