-- A value in the place of another one.

-- Other values stay where one is stored in the place of another.
pub mod Others
-- Lists that keep their rows.
pub mod Kept
