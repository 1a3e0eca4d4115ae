-- What statements mean for devices, lines and the place behind them.

-- A statement that computes.
pub mod Computing
-- A statement on lists or texts.
pub mod OnLists
-- What words name: numbers, and whether a stop stops.
pub mod Named
-- A statement on motors or sensors.
pub mod Ports
-- A statement of clumps.
pub mod OfClumps
-- How a statement ended, by what the variables say.
pub mod Ended
-- What a statement of clumps does to clumps, by what the calls on them say.
pub mod Ruled
-- What statements on devices and the clock give, by their words.
pub mod Acts
-- A system call: what it is given, and how it ended.
pub mod Calls
