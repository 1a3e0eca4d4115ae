-- The values at the start, and what they take of the pool.

-- The value that stands at a place, and the lists in it, by recursion on the shape.
pub mod ValueAt
-- The leaves of a shape by recursion, and what the rules say of each.
pub mod Leaves
-- Where the rules hold of each leaf, each element reads as the value that is found there.
pub mod Reads
-- The leaves of a table are those of its shapes by recursion, and each is found by its entry.
pub mod LeafOrder
-- Where each row is reached at most once, each list has a row of its own; where no rows share a byte, no lists do.
pub mod OwnRows
-- Where no rows share a byte, no lists do.
pub mod ApartRows
-- What the rules 9 and 13 to 17 say of a file's leaves and rows, where none is broken.
pub mod RulesKept
-- The rules of layout give the values at the start.
pub mod Exists
-- Strides that agree at the arrays' entries give the same shapes.
pub mod SameStrides
-- What reads as values counts the lists and their bytes, whatever the strides.
pub mod Strides
-- How many bytes the variables take at the start, by the rows that are reached.
pub mod Size
-- Where no rule of rows is broken, the passes tell the size of the start and the strides of the lists.
pub mod ByPasses
-- How many bytes the variables take at the start, by array and by row.
pub mod SizeByRows
-- Leaves that share no byte, and strides that suit their arrays.
pub mod Apart
