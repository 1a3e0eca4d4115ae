-- The bytes of lists in values, and what stores do to them.

-- Lengths that are summed, counted and compared.
pub mod Sums
-- Values with other parts are of their shapes.
pub mod Parts
-- Parts that stay beside a part that is written.
pub mod Beside
-- Lengths of values that differ in parts alone.
pub mod Compared
