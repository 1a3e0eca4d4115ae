-- A form that no line may have.
pub mod Syntax
-- Names that are declared again.
pub mod Spaces
-- The program's faults of texts, as the definitions see them.
pub mod Faults
-- What the program tells of names.
pub mod SpacesSeen
-- Rules that are kept one after another.
pub mod Checked
