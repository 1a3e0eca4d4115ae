pub mod Pools
pub mod Orders
pub mod Steps
