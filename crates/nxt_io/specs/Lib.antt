-- What an event does to devices.
pub mod Taken
