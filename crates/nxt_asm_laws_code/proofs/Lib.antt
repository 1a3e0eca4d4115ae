-- What holds of the code of every assembled text.
pub mod Laws
-- Statements that stand one behind another: where they begin, what lies inside, and where one is due.
mod Tiled
-- The clumps and the statements of blocks that keep the rules.
mod KeptCode
-- The code of blocks that keep the rules is accepted.
mod KeptRules
-- What the lines of a place may be.
mod PlaceForms
-- The lines of a block: the last one closes it, and a thread has no return.
mod SourceForms
-- Constants of operands are among the program's.
mod Listed
-- What operands' terms stand for.
mod SourceTerms
-- Operands by their terms and by their words, side by side, and the classes of operations.
mod MatchedSorts
-- Statements whose operands fit by their sorts in the text fit by their words.
mod SortRules
-- Operands by their terms and by their words.
mod TermOperands
-- The operands of a text's statements fit by their words.
mod StatementFits
-- The operands of sets and of the statements that lines of their own stand for fit by their words.
mod SetFits
-- What the lines of blocks keep, in a text where no rule is broken.
mod SourceLines
-- The bodies of blocks: they close, their labels stand below their ends, and their jumps lead to labels.
mod SourceLabels
-- The blocks of a text that keeps the rules keep those of code.
mod SourceBlocks
-- What the operands of a text that keeps the rules name is there.
mod SourceThere
-- What is known of a text that keeps the rules.
mod SourceTexts
-- Immediates that are allowed are no greatest words.
mod Narrow
-- The operands of a text's statements are of the classes that their words are read by.
mod SourceSuits
-- The operands of a text that keeps the rules are of the classes that their words are read by.
mod SuitedBlocks
