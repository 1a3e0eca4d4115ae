-- What the crates of statements may use: laws of operands.

-- How many lists stand in what is stored, and how many bytes they take.
pub mod Sizes
-- What a statement that gives one value stores, by the entry of its destination.
pub mod OneStored
-- What the words of a statement name, and what holds of the shapes there.
pub mod Named
-- Lists of numbers: which values they are, and their flat forms.
pub mod NumberLists
-- A refusal that is passed on.
pub mod Refusals
-- How statements that store a value end.
pub mod Stored
-- What the table tells of the shape that begins at an entry.
pub mod Shapes
-- Lists of numbers that stand in their place, with other elements.
pub mod InPlace
-- A number that is stored leaves all lists of numbers.
pub mod Beside
-- A statement that writes to an entry and then changes no row of the table.
pub mod Leaving
-- Parts of values by their paths.
pub mod Paths
-- What an entry names among the members of a cluster that another entry names.
pub mod Members
