pub mod Laws
mod Rules
mod Files
mod Examples
