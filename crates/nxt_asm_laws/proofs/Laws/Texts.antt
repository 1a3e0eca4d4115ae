-- The program of a text that keeps all rules can be assembled.
use Rattle.std.proofs.Common.{ℕ, List}
use Rattle.nxt_model.specs.declared.nbc.NbcProgram.{NbcProgram}
use Rattle.nxt_nbc.specs.Checked.{IsParsed}
use Rattle.nxt_asm_parts.specs.Sound.{IsSound}
use Rattle.nxt_asm_laws.proofs.Laws.Programs.{sound_spelled}

-- the program of a text that keeps all rules can be assembled
pub sound : (text : List ℕ) (p : NbcProgram) → IsParsed text p → IsSound p
sound text p parsed = sound_spelled text parsed.tokens.0 p parsed.accepted parsed.tokens.1 parsed.tokens.2
