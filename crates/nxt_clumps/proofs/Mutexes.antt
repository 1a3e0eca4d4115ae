-- Mutexes and those who wait for them.

-- The mutexes of the entries, by owner and by those who wait.
pub mod Entries
-- The first who waits for a mutex.
pub mod FirstWaiter
-- Mutexes are taken and waited for.
pub mod Waits
-- Mutexes are handed on.
pub mod Handed
