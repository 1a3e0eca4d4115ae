-- Parts whose image runs as a text.
pub mod Runs
