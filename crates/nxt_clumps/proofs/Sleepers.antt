-- Those who sleep stand in the order in which they wake.

-- The order, and a sleeper put in it.
pub mod Order
-- The sleepers when a clump changes.
pub mod Changed
-- Sleepers wake one by one as they do all at once.
pub mod Waking
