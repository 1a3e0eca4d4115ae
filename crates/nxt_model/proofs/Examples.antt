-- Worked programs, texts, values and pools.

-- Worked values, footprints and programs on lists.
pub mod Values
-- Worked runs of small programs.
pub mod Runs
-- Worked readings of pools, and the program on nested lists.
pub mod Reading
-- A worked dump: one text, right above its table.
pub mod Dumps
-- Worked texts: tokens and forms.
pub mod NbcTokens
-- Worked texts: the first broken rule, and a program.
pub mod NbcTexts
-- Worked texts: which declaration of a name counts.
pub mod NbcNames
-- Worked texts: what they mean, and the images that they are assembled to.
pub mod TextPrograms
