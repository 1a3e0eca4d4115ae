-- What holds of the declarations of every text.
pub mod Laws
-- The first position of a name in a list that grows.
mod Positions
-- The number that a name stands for.
mod Constants
-- How much arrays and members hold.
mod Measures
-- How much structs behind one another hold.
mod StructLists
-- Where a name stands among structs.
mod StructPlaces
-- Where a name stands in a table of structs.
mod StructTables
-- The number or mutex that a name stands for.
mod PlainTypes
-- The positions of members in front of others.
mod MemberPlaces
-- The structs of the header, one behind another.
mod HeaderRows
-- The lines of a block.
mod BlockItems
-- The blocks that are found, with one line or one block more.
mod BlockLists
-- The first label of a name by its position.
mod LabelNames
-- The sort of a name by its position.
mod SortNames
-- What lines declare, with one line more.
mod DeclaredLines
-- Structs that are read line by line.
mod ReadLines
-- What names stand for, by their parts.
mod NamesDenoted
