-- Worked tables.

-- A cluster of two members, of which one is there.
pub mod OpenCluster
