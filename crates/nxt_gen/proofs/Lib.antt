-- Laws for the crates above.
pub mod Laws
-- One round of a count that falls.
mod Rounds
-- Worked draws.
mod Examples
