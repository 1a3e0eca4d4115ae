-- What holds of every program's image.

-- Tables whose numbers have 16 bits.
pub mod Tables
-- Where statements begin, with one more statement or block at the end.
pub mod Words
-- The elements of arrays that are too large.
pub mod LargeElements
