pub mod Fields
pub mod Answers
pub mod Calls
pub mod Keeping
