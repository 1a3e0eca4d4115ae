-- No generated text is too large.
pub mod Short
