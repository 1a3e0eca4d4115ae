-- What the crates above may use: laws of values in a heap.

-- Sizes that are added up, member by member and element by element.
pub mod Sizes
-- What a flat form fills a place with.
pub mod Filled
-- Variables that fill a heap without lists are held.
pub mod Begun
-- Places that are filled member by member, and what was filled stays.
pub mod FilledPlaces
-- How much of the pool lists need that are still to be made.
pub mod Needs
-- How many rows have a list, and how long the table of rows gets.
pub mod Rows
-- Rows that lose their lists.
pub mod Without
-- The elements of lists: where they stand, what they hold, their values and their rows.
pub mod Elements
-- The members of a cluster that are ahead, one by one.
pub mod Members
-- What the heap holds are values of the variables' shapes.
pub mod Shapes
-- How many members groups have.
pub mod Lengths
-- How many lists the variables have, and how many bytes these take, by the rows of the heap.
pub mod HeldSizes
-- The variables are held with a part that is stored.
pub mod StoredHeld
-- A part of the variables is stored, and the others stay.
pub mod StoredPart
-- The rows that the variables have are their own, and no other is alive.
pub mod HeldRows
-- Elements that are filled one after another.
pub mod FilledElements
-- A number whose bytes are stored.
pub mod Numbers
-- A list of numbers that keeps its row and gets other bytes.
pub mod RowKept
-- Rows that are taken for lists, and bytes that are stored in a region.
pub mod Opened
-- What is filled so far, and what is still to be filled.
pub mod Steps
