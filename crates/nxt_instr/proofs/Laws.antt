-- What holds of every statement.

-- Long forms are read back as what they were written of.
pub mod LongForms
