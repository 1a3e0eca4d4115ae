pub mod Writing
pub mod Statuses
pub mod Running
pub mod Cut
