-- A program with what its image is made from.
pub mod Drafts
