-- How a heap is kept in its pool: definitions that no caller needs.

-- Where the blocks stand in the pool, which lists it holds, and what each step changes.
pub mod Pool
