-- Files as bytes, and their parts.

-- A file has at most one list of parts.
pub mod OneList
-- What is read is a file of its parts.
pub mod Found
-- Sections and pads, one after another.
pub mod Joined
-- Sections that lie in the file.
pub mod Sections
-- Bytes as items one behind another.
pub mod Items
