-- What the heap may use: the table of rows in a pool.

-- The chain of free rows: its length, and how it stands after a row is taken or freed.
pub mod Chains
-- The free rows of a pool after one is taken or freed.
pub mod FreeRows
-- Rows after bytes of the pool are written.
pub mod Writes
