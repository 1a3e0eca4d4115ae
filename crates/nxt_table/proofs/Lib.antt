mod Entries
mod Placement
pub mod Laws
mod Examples
