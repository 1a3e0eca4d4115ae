pub mod Numbers
pub mod Operands
