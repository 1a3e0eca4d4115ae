-- What the operands of an accepted text name is there.
use Rattle.std.proofs.Common.{ℕ, List, subst, sym}
use Rattle.nxt_model.specs.declared.nbc.NbcBlock.{NbcBlock}
use Rattle.nxt_model.specs.declared.nbc.NbcProgram.{NbcProgram}
use Rattle.nxt_model.specs.declared.nbc.NbcStatement.{NbcStatement}
use Rattle.nxt_model.specs.Nbc.Forms.{formed}
use Rattle.nxt_model.specs.Nbc.Text.{Source, source_of}
use Rattle.nxt_model.specs.Nbc.Tokens.{lines_of}
use Rattle.nxt_model.specs.TextProgram.{Text, text_of}
use Rattle.nxt_nbc.specs.Checked.{IsParsed}
use Rattle.nxt_asm_laws.proofs.Laws.Lists.{Each}
use Rattle.nxt_asm_laws_code.specs.There.{IsThere}
use Rattle.nxt_asm_laws_code.proofs.SourceTexts.{text_known}
use Rattle.nxt_asm_laws_code.proofs.SourceThere.{program_there}

-- each operand's part of a variable, constant or return variable
pub operands_there : (text : List ℕ) (p : NbcProgram) → IsParsed text p
    → Each (λ (b : NbcBlock). Each (λ (s : NbcStatement). Each (IsThere (text_of p)) s.args) b.body) (text_of p).blocks
operands_there text p parsed =
    let src : Source = source_of (formed (lines_of text parsed.tokens.0)).forms in
    let known = text_known text parsed.tokens.0 parsed.accepted parsed.tokens.1 in
    subst (λ (x : Text). Each (λ (b : NbcBlock). Each (λ (s : NbcStatement). Each (IsThere x) s.args) b.body) x.blocks) (sym parsed.tokens.2)
    (program_there src known.parts known.names known.blocks)
