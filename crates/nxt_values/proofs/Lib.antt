mod Hold
mod Read
pub mod Laws
mod Free
pub mod Fill
mod Store
mod Examples
