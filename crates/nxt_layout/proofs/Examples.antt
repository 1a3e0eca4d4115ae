-- The rules on worked parts.

-- The rules of tables and data on worked parts.
pub mod Rules
