mod Dope
mod Start
mod Rules
pub mod Laws
mod Examples
