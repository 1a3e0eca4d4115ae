-- What the crates above may use: right dumps go on.

-- A report that broke off goes on.
pub mod GoesOn
-- The programs of images run with right dumps.
pub mod Images
-- And so do those of accepted files.
pub mod Files
