-- What holds of the table and the data of every assembled text.
pub mod Laws
-- Sums of the sizes that pass a test.
mod Weights
-- The places of leaves: they end where all leaves do, and no two share a byte.
mod Spots
-- The leaves of a table whose leaves stand by size, by recursion on the shapes.
mod OwnLeaves
-- Where the leaves of a table stand: each ends where it may, no two share a byte, and each has its default.
mod Placed
-- The static defaults of leaves: each lies within those of all.
mod Given
-- A table that spells variables is open nowhere.
mod Whole
-- The forms that stand in structs, and those that stand elsewhere.
mod FormPlaces
-- Structs end behind members, where no line of a text is bad.
mod Closed
-- The shapes of the variables of a text that keeps the rules, and the starts that they are given.
mod TextShapes
-- Bytes that are written one after another, no two of which share a place, stay as they are.
mod Writes
-- Values with which variables start: numbers of their kinds, and lists of numbers.
mod Held
-- What is written of the variables in the dataspace.
mod Written
-- The rows of a table of rows and the bytes of its lists, as they are read.
mod RowsRead
-- What is written reads as the values that were written.
mod ReadBack
-- The lists of the starting values have rows of their own, and share no byte.
mod ListBlocks
-- The table of rows of an assembled text, as it is read.
mod TableRead
-- Leaves that stand by size reach as far as they have bytes.
mod Reaches
-- The extent of an array's element is the sum of its leaves' bytes.
mod Extents
-- The numbers of the arrays of an assembled text: one row for each that stands outside, and none for those in elements.
mod Numbers
-- The dataspace of an assembled text reads as the starting values.
mod Starts
-- The variables of an assembled text have packed lists, and start with their values.
mod LayoutStart
-- Where the bytes of rows lie: one behind another.
mod RowSpans
-- Tests of rows that no array of an assembled text passes.
mod RowTests
-- The rows of an assembled text break no rule of layout.
mod RowsKept
-- The starting values of a text's variables and constants: numbers of their kinds, and lists of numbers.
mod TextValues
-- The words of a text that are quoted are of shown bytes.
mod ShownWords
-- The forms of a text's lines have texts of shown bytes.
mod ShownForms
-- The texts between quotes, as starts and as operands, are of shown bytes.
mod ShownBytes
-- The starting values of a parsed text are those of its variables' shapes.
mod ShownTexts
