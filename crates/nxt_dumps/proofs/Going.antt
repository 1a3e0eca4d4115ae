-- What a report keeps, event by event.

-- What is kept of a state and its mark.
pub mod Kept
-- Each event keeps it.
pub mod Events
