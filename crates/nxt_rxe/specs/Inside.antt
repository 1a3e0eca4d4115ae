-- What the steps of reading a file find: definitions that no caller needs.

-- What the steps of reading a file find.
pub mod Reading
