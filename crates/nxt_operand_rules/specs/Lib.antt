-- What is seen of an operand.
pub mod SeenOf
-- What the questions about operands mean.
pub mod Questions
