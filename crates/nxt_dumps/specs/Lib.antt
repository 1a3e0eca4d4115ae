pub mod Layouts
pub mod Lengths
pub mod Runnable
pub mod Holdable
pub mod InHeap
pub mod Tables
