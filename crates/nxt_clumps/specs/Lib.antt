pub mod Plans
pub mod Clumps
pub mod Answers
pub mod Inside
