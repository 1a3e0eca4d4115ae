-- What a bytecode does to the variables.

-- Stored values are of the shapes that they are stored in.
pub mod Stored
-- What system calls store.
pub mod Calls
-- What each statement stores.
pub mod Meant
-- Stores one after another.
pub mod Stores
-- What an instruction that is fit stores.
pub mod Fits
-- What a program counts, by lengths.
pub mod Counted
-- How a bytecode comes out.
pub mod Outcomes
-- A bytecode keeps good states good, and what it does to the lengths.
pub mod Bytecodes
