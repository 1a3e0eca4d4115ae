-- Commands, statuses and outcomes, as the program has them.
pub mod Commands
pub mod Statuses
pub mod Outcomes
pub mod Answers
