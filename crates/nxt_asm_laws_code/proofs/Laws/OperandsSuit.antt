-- The operands of an accepted text are of the classes that their words are read by.
use Rattle.std.proofs.Common.{ℕ, List, ◌≤◌, subst, sym}
use Rattle.std.specs.Prelude.{sum_by}
use Rattle.nxt_types.specs.Names.{size}
use Rattle.nxt_types.specs.Refusals.{IsAccepted}
use Rattle.nxt_model.specs.declared.nbc.NbcBlock.{NbcBlock}
use Rattle.nxt_model.specs.declared.nbc.NbcProgram.{NbcProgram}
use Rattle.nxt_model.specs.Assembled.{all_shapes}
use Rattle.nxt_model.specs.Nbc.Forms.{formed}
use Rattle.nxt_model.specs.Nbc.Text.{Source, source_of}
use Rattle.nxt_model.specs.Nbc.Tokens.{lines_of}
use Rattle.nxt_model.specs.TextProgram.{Text, text_of}
use Rattle.nxt_nbc.specs.Checked.{IsParsed}
use Rattle.nxt_asm_rules.specs.AsmRules.{Broken}
use Rattle.nxt_asm_laws.proofs.Laws.Lists.{Each}
use Rattle.nxt_asm_laws_code.specs.Suits.{IsSuited}
use Rattle.nxt_asm_laws_code.proofs.Laws.Accepted.{few_entries}
use Rattle.nxt_asm_laws_code.proofs.SourceTexts.{text_known}
use Rattle.nxt_asm_laws_code.proofs.SuitedBlocks.{program_suited}

-- each statement's operands
pub operands_suit : (text : List ℕ) (p : NbcProgram) → IsParsed text p → IsAccepted (Broken (text_of p)) → Each (λ (b : NbcBlock). Each IsSuited b.body) (text_of p).blocks
operands_suit text p parsed kept =
    let src : Source = source_of (formed (lines_of text parsed.tokens.0)).forms in
    let known = text_known text parsed.tokens.0 parsed.accepted parsed.tokens.1 in
    subst (λ (x : Text). Each (λ (b : NbcBlock). Each IsSuited b.body) x.blocks) (sym parsed.tokens.2)
    (program_suited src (subst (λ (x : Text). sum_by size (all_shapes x) ≤ 49151) parsed.tokens.2 (few_entries (text_of p) kept)) known.parts known.names known.blocks)
