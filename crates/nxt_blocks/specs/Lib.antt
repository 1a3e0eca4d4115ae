pub mod Blocks
pub mod Standing
