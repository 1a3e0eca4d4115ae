pub mod Elements
pub mod Ops
pub mod Preparing
pub mod Passes
pub mod Sides
pub mod Clusters
