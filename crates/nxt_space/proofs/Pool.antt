-- The pool of a space, as dumps show it.

-- Lists with rows of their own share no byte of a pool.
pub mod Apart
-- Rows with lists and rows without, each once.
pub mod Once
-- The elements of each list are apart.
pub mod Strides
-- What a heap dumps that holds the variables.
pub mod Dumped
