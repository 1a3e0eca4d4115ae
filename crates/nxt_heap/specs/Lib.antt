pub mod Dumps
pub mod Lists
pub mod Inside
pub mod Moves
