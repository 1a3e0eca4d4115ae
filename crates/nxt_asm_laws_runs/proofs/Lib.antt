-- The image of every accepted text runs as the text.
pub mod Laws
-- Values are stored in destinations alone, and jumps alone jump.
mod Destinations
-- Values with constants behind them: they are read, and values are stored in front of them.
mod Constants
-- Statements whose operands agree do the same.
mod SameStatements
-- The numbers of statements: how many begin before a word.
mod Numbers
-- The operands of a text and the words of its code refer to the same.
mod Agreement
-- A statement of a text and the one that its words spell are alike.
mod AlikeStatements
-- The code of a text and that of its image are alike.
mod AlikeCode
-- The values, the lists, the rows and the footprint of a text and of its image.
mod AtStart
-- What a text spells is the program of types: each shape that a text's variables may have is that of a type over structs.
mod Typed
-- What holds of each text that is accepted, whatever spells it.
pub mod Spelled
