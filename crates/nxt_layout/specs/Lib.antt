pub mod Rows
pub mod Start
pub mod LayoutRules
pub mod Layouts
pub mod Inside
