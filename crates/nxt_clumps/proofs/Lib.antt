mod Records
mod Queue
mod Sleepers
mod Mutexes
pub mod Laws
mod Examples
