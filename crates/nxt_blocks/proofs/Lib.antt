-- What the crates above may use.
pub mod Laws
mod Examples
