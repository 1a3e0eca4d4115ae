-- Lines whose fields are written part by part, and rows one after another.
mod Lines
-- What a file's layout and code tell of its listing.
mod OfFile
-- Worked listings.
mod Examples
