-- What a fault of `lex` tells of a text.
use Rattle.std.specs.Prelude.{◌≡◌, ℕ, List, Err, ⊤}
use Rattle.nxt_model.specs.Nbc.Tokens.{tokens_of}
use Rattle.nxt_nbc_lines.specs.declared.fault.NbcFault.{NbcFault}
use Rattle.nxt_nbc_lines.specs.declared.fault.NbcFault.TheVariants.{Lex, NoMemory}

-- at this line no token begins, or memory was wanting; `lex` has no other fault
abbrev pub IsLexFault : List ℕ → NbcFault → Type 0
IsLexFault text (Lex line) = tokens_of text ≡ Err line
IsLexFault text NoMemory = ⊤
IsLexFault text _ = ⊥
