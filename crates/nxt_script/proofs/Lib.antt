pub mod Fields
pub mod Names
pub mod RowsLaw
pub mod LongLines
pub mod Fronts
pub mod Calls
pub mod NextRow
mod ScriptRows
-- What the crates above may use: laws of a script's rows.
pub mod Laws
