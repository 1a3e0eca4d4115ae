-- One bytecode of the plain machine, and several.
mod Steps
-- What statements mean for values, devices, lines and the place behind them.
mod Meanings
-- What stays of a program while its statements run.
mod Kept
-- Programs and machines that are made.
mod Making
-- Bytes in lines of 64.
mod Dumped
-- What a dump would show behind bytecodes and other events.
mod Obeying
-- What a statement leaves in its place in the pool.
mod Keeping
