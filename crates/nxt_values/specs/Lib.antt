pub mod Elements
pub mod Held
pub mod Regions
pub mod Ahead
pub mod Writes
pub mod Fills
pub mod Sizes
pub mod Parts
