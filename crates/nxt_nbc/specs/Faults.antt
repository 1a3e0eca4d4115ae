-- The program's faults of texts, as the definitions see them.
use Rattle.std.specs.Prelude.{ℕ, List, Option, Some, None, IfSome}
use Rattle.nxt_types.specs.Refusals.{IsRefusal}
use Rattle.nxt_model.specs.Nbc.NbcRules.{TextFault, Broken, rank}
use Rattle.nxt_model.specs.Nbc.NbcRules as rules
use Rattle.nxt_nbc_lines.specs.declared.fault.NbcFault.{NbcFault}
use Rattle.nxt_nbc_lines.specs.declared.fault.NbcFault.TheVariants.{Lex, Syntax, UnknownName, TwiceNamed, Kind, Range, NoMain, TooMany, NoMemory}

-- want of memory is no fault of the text
abbrev pub fault_seen : NbcFault → Option TextFault
fault_seen (Lex line) = Some (rules.Lex line)
fault_seen (Syntax line) = Some (rules.Syntax line)
fault_seen (UnknownName line) = Some (rules.UnknownName line)
fault_seen (TwiceNamed line) = Some (rules.TwiceNamed line)
fault_seen (Kind line k) = Some (rules.WrongKind line k)
fault_seen (Range line) = Some (rules.OutOfRange line)
fault_seen NoMain = Some rules.NoMain
fault_seen (TooMany case) = Some (rules.TooMany case)
fault_seen NoMemory = None

-- the text is refused by this fault, or memory was wanting
abbrev pub IsRefused : List ℕ → NbcFault → Type 0
IsRefused text f = IfSome (fault_seen f) (IsRefusal (Broken text) rank)
