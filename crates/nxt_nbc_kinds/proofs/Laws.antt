-- What holds of the operands of every text.

-- The first operand of a line that is of a wrong kind, and the first line that has one.
pub mod FirstWrong
