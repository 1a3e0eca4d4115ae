-- Lists that are freed.

-- Lists that are freed, member by member and element by element.
pub mod Elements
-- Members whose lists are freed one after another.
pub mod Members
-- A place whose lists are freed can be filled.
pub mod Emptied
