-- What the check of code keeps while it works: definitions that no caller needs.

-- What is found of the shapes that words name, and kept for the next time.
pub mod KnownShapes
-- The first place at which a rule is broken.
pub mod Places
