-- What the listing is written by: definitions that no caller needs.

-- The lines of a layout's rows.
pub mod RowLines
