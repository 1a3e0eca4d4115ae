mod Motors
pub mod Laws
mod Examples
