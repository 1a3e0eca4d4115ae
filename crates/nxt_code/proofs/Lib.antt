mod Rules
mod Sequence
mod Arguments
mod Examples
pub mod Laws
