mod Names
mod Refusals
mod Ports
mod Examples
