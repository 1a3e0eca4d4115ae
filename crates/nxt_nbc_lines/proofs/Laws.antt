-- What holds of the tokens and of the forms of every text.

-- A test of numbers that answers one way far above and one way far below says the same of numbers as they are held.
pub mod HeldNumbers
-- Lists whose elements change where a test does not look.
pub mod HeldLists
-- What a text declares, with its numbers as they are held.
pub mod HeldSources
-- What names stand for is the same where numbers are held.
pub mod HeldNames
-- Lines that have no form, and names that nothing declares, are the same where numbers are held.
pub mod HeldUnknown
-- Names that are declared twice are the same where numbers are held.
pub mod HeldSpaces
-- Operands are of the same kinds and in the same ranges where numbers are held.
pub mod HeldOperands
-- Each rule of a text says the same of its forms with their numbers as they are held.
pub mod HeldRules
-- Where no rule is broken each number is held as it is.
pub mod HeldSame
-- The lines of a text's forms ascend.
pub mod Ascending
-- The lines of a text have as many operands as they may have.
pub mod Whole
-- The classes of a statement's operands, by their positions.
pub mod Classes
-- The line of the first form that a test finds is the least line at which it finds a form.
pub mod FirstLines
-- The least lines at which rules are broken, by the first forms that break them.
pub mod FirstRules
-- A rule that is broken at its least place, where those of a lesser number are kept, is why a text is refused.
pub mod Ranks
-- What refuses a text, rule by rule.
pub mod Refused
use Rattle.std.proofs.Common.{◌≡◌, ℕ, List, Ok}
use Rattle.nxt_model.specs.Nbc.Tokens.{Token, tokens_of}
use Rattle.nxt_nbc_lines.specs.declared.fault.NbcFault.TheVariants.{Lex}
use Rattle.nxt_nbc_lines.specs.Lexed.{IsLexFault}

-- a text has at most one list of tokens: two calls of `lex` that give tokens give the same ones
pub one_list : (text : List ℕ) (ts others : List Token) → tokens_of text ≡ Ok ts → tokens_of text ≡ Ok others → others ≡ ts
one_list text ts others e f = cc

-- two calls that refuse a text refuse it at the same line
pub one_line : (text : List ℕ) (line other : ℕ) → IsLexFault text (Lex line) → IsLexFault text (Lex other) → other ≡ line
one_line text line other e f = cc

-- a text that has tokens isn't refused
pub not_refused : (text : List ℕ) (ts : List Token) (line : ℕ) → tokens_of text ≡ Ok ts → IsLexFault text (Lex line) → ⊥
not_refused text ts line e f = cc
