pub mod Leaves
pub mod Dataspace
pub mod TableRules
pub mod Inside
pub mod KeptTables
pub mod Strides
