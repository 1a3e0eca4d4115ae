-- What the passes over a table compute: definitions that no caller needs.

-- What the passes over a table compute, entry by entry.
pub mod Items
-- What encloses each entry of a table, by one pass over its entries.
pub mod Enclosing
-- What the passes over a table's leaves compute.
pub mod LeafPasses
-- The first leaf on each byte.
pub mod Owners
-- The shapes that a table's entries spell, from the last entry to the first.
pub mod Shaping
-- The passes that find the first fault of a table, its leaves and their defaults.
pub mod Checks
