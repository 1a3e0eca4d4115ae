pub mod Arrays
pub mod Preparing
