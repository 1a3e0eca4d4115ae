mod Parts
pub mod Start
pub mod Pool
pub mod Laws
