-- What holds of every program's image.
pub mod Laws
-- What arrays and members take.
mod Taken
-- The shapes of structs behind one another, and their measures.
mod StructShapes
-- Steps to members.
mod Steps
-- The entries of shapes, one after another.
mod Entries
-- The places of leaves, counted as they come.
mod LeafPlaces
-- What is put in where it is new is what is distinct.
mod Distinct
-- What references to texts show.
mod ShownTexts
-- The place of an item among others.
mod PlacesAmong
-- The first table entries of shapes, and the return variables of blocks.
mod FirstPlaces
-- The shapes of a program's variables and constants, by position.
mod NumberShapes
-- The code of statements and blocks, with one more of them at the end.
mod CodeWords
-- Leaves behind one another, and their defaults.
mod DefaultLeaves
-- The rows and the bytes of lists, one after another.
mod ListRows
-- The types of variables and constants, one after another.
mod TypeLists
