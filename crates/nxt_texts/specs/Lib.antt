pub mod Numerals
pub mod Packing
pub mod Texts
