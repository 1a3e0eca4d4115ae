-- The rules on worked programs.

-- The rules of clumps and code on worked programs.
pub mod Rules
