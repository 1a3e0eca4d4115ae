-- What holds of the tokens and of the forms of every text.
pub mod Laws
-- A piece lies in its text, and isn't empty.
pub mod PieceLengths
-- The tokens of a text, piece by piece.
pub mod TokensLaw
-- Worked tokens.
mod Examples
-- Digits whose number is held.
pub mod HeldDigits
-- Pieces between commas, and what each of them gives.
pub mod PutAll
-- A list that is cut at its first comma.
pub mod Commas
-- Lines with labels, by their label.
pub mod Labels
-- The forms of a place, by the words that tell them apart.
pub mod PlaceLaws
-- Lines that are read one after another.
pub mod LineLaws
-- What is open, with the innermost held last.
pub mod OpenLaws
-- The forms of lines whose numbers are held are the lines' forms with their numbers held.
pub mod HeldForms
-- The forms of a text's lines, place by place, with their numbers held.
pub mod HeldLines
-- Worked forms of lines.
mod FormExamples
