pub mod CodeRules
pub mod OperandsSeen
pub mod Decoding
pub mod Inside
