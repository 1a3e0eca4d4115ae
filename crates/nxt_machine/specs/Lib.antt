pub mod Numbers
pub mod Machines
pub mod Dumping
pub mod Settling
pub mod Memory
pub mod Inside
