-- Rules that are kept one after another.
use Rattle.std.specs.Prelude.{◌≡◌, ℕ, List, Ok}
use Rattle.nxt_types.specs.Refusals.{IsAccepted}
use Rattle.nxt_model.specs.Nbc.Tokens.{Token, tokens_of, lines_of}
use Rattle.nxt_model.specs.Nbc.Forms.{Formed, formed}
use Rattle.nxt_model.specs.Nbc.NbcRules.{Broken}
use Rattle.nxt_model.specs.Nbc.Text.{program_of, source_of}
use Rattle.nxt_model.specs.TextProgram.{Text, text_of}
use Rattle.nxt_model.specs.declared.nbc.NbcProgram.{NbcProgram}
use Rattle.nxt_nbc_lines.specs.Firsts.{HasForms}
use Rattle.nxt_nbc_lines.specs.declared.fault.NbcFault.{NbcFault}
use Rattle.nxt_nbc.specs.Faults.{IsRefused}

-- a text that has these forms is refused by this fault
abbrev pub Refuses : Formed → NbcFault → Type 0
Refuses fd f = (text : List ℕ) (ts : List Token) → HasForms text ts fd → IsRefused text f

-- the text keeps all rules, and this is what it spells
pub record Spells (text : List ℕ) (t : Text) : Type 0 where
  pub accepted : IsAccepted (Broken text)
  pub tokens : (ts : List Token) × (tokens_of text ≡ Ok ts) × (t ≡ program_of (source_of (formed (lines_of text ts)).forms))

-- the text keeps all rules, and spells this program
abbrev pub IsParsed : List ℕ → NbcProgram → Type 0
IsParsed text p = Spells text (text_of p)
