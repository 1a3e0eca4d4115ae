-- Parts of the variables, by what an entry names.

-- What an entry names is a part of the variables.
pub mod Named
-- What stands where a name leads.
pub mod Standing
-- A part is no larger than the whole.
pub mod Bounds
-- The variables that a heap keeps, with another value for one of them.
pub mod Kept
-- The variables with another value where an entry names one.
pub mod Replaced
-- A part that is stored and keeps its rows.
pub mod KeptRows
-- Lists of bytes.
pub mod ByteLists
-- Numbers that are read and stored where they stand.
pub mod Spots
-- Lists of numbers that are read and stored where they stand.
pub mod ListSpots
-- A list that gets more bytes.
pub mod Extended
-- What stands at a place fills it anew.
pub mod Refilled
-- A list of numbers that is an element of another list gets other bytes.
pub mod InnerRows
-- A row's list gets other bytes, and so what begins at an entry has another value.
pub mod RowGiven
-- Lists of lists of numbers, of which one is read and stored where it stands.
pub mod InnerSpots
