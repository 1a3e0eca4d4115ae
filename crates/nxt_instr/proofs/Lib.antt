pub mod Placing
pub mod SpelledLaws
pub mod Laws
