pub mod Files
pub mod FileRules
pub mod Inside
