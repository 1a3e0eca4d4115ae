-- What a dump would show behind bytecodes and other events.

-- The mark behind bytecodes.
pub mod Marks
-- Events from outside.
pub mod Events
-- How several of them leave the pool.
pub mod Settled
