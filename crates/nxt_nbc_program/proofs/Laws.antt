-- What holds of the programs of every text.

-- What a text counts fits in the fields of a program.
pub mod Fits
