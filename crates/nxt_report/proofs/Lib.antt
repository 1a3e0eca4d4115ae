-- One piece of a text after another.
pub mod Pieces
-- What bytecodes, events and rows told.
pub mod Runs
-- What one event told, a dump or another one.
mod Events
-- What a script's next row says of the rows to come.
mod Scripts
-- What ran of a script.
mod Rows
-- What ran of a script whose source fails.
pub mod Cut
