-- Where leaves stand, and their defaults.

-- The first pair of leaves that share a byte.
pub mod FirstOverlap
-- The least owner of a leaf's bytes is the first leaf that shares one.
pub mod Owners
-- The defaults that the passes count are those of the table's leaves.
pub mod Defaults
-- What the passes settle for the leaves and their defaults.
pub mod Settled
