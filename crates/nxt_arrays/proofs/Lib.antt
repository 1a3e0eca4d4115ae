pub mod Fitting
pub mod Meanings
pub mod SeveralFitting
mod PreparedStatements
