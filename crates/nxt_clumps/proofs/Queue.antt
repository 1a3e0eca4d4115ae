-- The queue and the clumps in it.

-- Lists of the clumps that pass a test, when a clump changes.
pub mod Members
-- The fields of a state still fit one another after a step.
pub mod Kept
-- Clumps at their start.
pub mod Starts
-- Dependents are lowered one by one.
pub mod Lowered
