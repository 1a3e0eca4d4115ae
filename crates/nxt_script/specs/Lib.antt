-- The forms of rows.
pub mod RowForms
-- The rows of a script's bytes.
pub mod Rows
-- A script that is read row by row.
pub mod Scripts
-- How far it is taken ahead of its rows.
pub mod Ahead
-- Inside of the crate: lines, and the front of a script.
pub mod Inside
