-- What parsing tells of a text.
pub mod Laws
-- The lesser of lines, and counts as they are held.
mod LesserLines
-- The least line of a space that declares a name again.
mod NamesAgain
-- What the names of a text tell.
mod SpacesTold
-- Names that are read one after another.
mod SpaceLoops
-- The names of lines that are left, by the first of them.
mod SpaceLines
-- The first lines that use what isn't there.
mod UnknownNames
-- What the blocks of a text tell of the rules of main and of counts.
mod CountsTold
