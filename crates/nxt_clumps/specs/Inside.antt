-- How clumps are kept: definitions that no caller needs.

-- The records of a file, and what clumps do, as the program keeps them.
pub mod Records
-- Those who sleep, in the order in which they wake.
pub mod Sleepers
-- The queue, those who wait and the owners of mutexes, as the program keeps them.
pub mod States
