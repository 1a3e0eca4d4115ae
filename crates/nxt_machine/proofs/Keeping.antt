-- What a statement leaves in its place in the pool.

-- What is written, and what stays by it.
pub mod Parts
-- A statement that stores a value in its first operand.
pub mod FirstStored
-- A system call.
pub mod Called
-- What the first of the queue runs.
pub mod Running
