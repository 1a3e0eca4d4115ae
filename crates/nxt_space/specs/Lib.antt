pub mod Outcomes
pub mod Variables
pub mod Inside
pub mod Spots
pub mod Keeping
pub mod Dumping
pub mod Settling
