pub mod Pairs
pub mod Sums
pub mod Places
pub mod PutAt
