-- What holds of the program of every text that keeps the rules.
pub mod Laws
