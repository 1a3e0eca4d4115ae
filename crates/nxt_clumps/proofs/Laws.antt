-- What the crates above may use: laws of the rules of clumps.

-- No rule changes how many clumps or mutexes there are.
pub mod Sizes
