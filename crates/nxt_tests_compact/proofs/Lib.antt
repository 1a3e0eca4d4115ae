-- The bytes of all blocks of a pool.
mod Room
