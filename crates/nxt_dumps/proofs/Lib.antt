-- Settled, shorter and dense layouts.
mod Layouts
-- The bytes of lists in values, and what stores do to them.
mod Lengths
-- What a bytecode does to the variables.
mod Steps
-- Heaps that hold values, and bytes that hold heaps.
mod Heaps
-- Right dumps of a content.
mod Dumps
-- What a report keeps, event by event.
mod Going
-- What the crates above may use.
pub mod Laws
