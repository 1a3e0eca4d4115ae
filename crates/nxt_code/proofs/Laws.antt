-- What the crates above may use: laws of the rules on code.

-- Each code is refused by a first rule, or breaks none.
pub mod Decided
-- The statements of code whose operands are all fit.
pub mod FitStatements
