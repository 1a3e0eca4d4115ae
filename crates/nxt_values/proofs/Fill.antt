-- Places that are filled with values.

-- Bytes that are stored in a region.
pub mod Bytes
-- Changes one after another, each of which takes rows.
pub mod Growing
-- Lists whose elements are filled.
pub mod Lists
-- Values in which no list stands.
pub mod NoLists
