pub mod ByWords
pub mod DecidingInPlace
pub mod DecidingNumbers
pub mod Fitting
pub mod Meanings
pub mod PairedNumbers
pub mod Passing
pub mod Written
pub mod Words
pub mod OnWords
pub mod PreparedStatements
pub mod OnLists
pub mod Laws
-- Clusters of numbers, number by number.
mod Memberwise
