-- What the crates above may use: laws of a script's rows.

-- Records that end in a front of a script.
pub mod Records
-- A bad row comes behind all the others.
pub mod BadRow
