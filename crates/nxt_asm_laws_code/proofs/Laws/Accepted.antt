-- The code of an accepted text is accepted.
use Rattle.std.proofs.Common.{◌≡◌, ℕ, ◌≤◌, ◌&&◌, false, nat_lt, List, length, Ok, refl, sym, ap, subst, ◌∙◌, eq-eqb}
use Rattle.std.specs.Prelude.{flat_map, sum_by}
use Rattle.std.proofs.lemmas.Bool.{false_from_ne_true, ltb-false}
use Rattle.nxt_types.specs.Names.{size}
use Rattle.nxt_types.specs.Refusals.{IsAccepted}
use Rattle.nxt_types.specs.Shapes.{members}
use Rattle.nxt_code.specs.CodeRules as code_rules
use Rattle.nxt_code.specs.CodeRules.{program}
use Rattle.nxt_model.specs.declared.nbc.NbcProgram.{NbcProgram}
use Rattle.nxt_model.specs.Assembled.{all_shapes, code_from, records_from}
use Rattle.nxt_model.specs.Nbc.Forms.{formed}
use Rattle.nxt_model.specs.Nbc.NbcRules as text_rules
use Rattle.nxt_model.specs.Nbc.NbcRules.{TextFault, Lex, NoMain, Syntax, at_line, has_large_type, has_wrong_text, is_at, tells}
use Rattle.nxt_model.specs.Nbc.Text.{Source, program_of, source_of}
use Rattle.nxt_model.specs.Nbc.Tokens.{Token, lines_of, tokens_of}
use Rattle.nxt_model.specs.TextProgram.{Text, text_of}
use Rattle.nxt_nbc.specs.Checked.{IsParsed}
use Rattle.nxt_asm_rules.specs.AsmRules.{Broken, entry_count, far_in_blocks, is_too_large}
use Rattle.nxt_asm_rules.specs.declared.fault.AsmFault.TheVariants.{FarJump, TooLarge}
use Rattle.nxt_asm_laws.proofs.Laws.Lists.{Each}
use Rattle.nxt_asm_laws.proofs.Laws.Texts.{sound}
use Rattle.nxt_asm_laws_code.specs.Kept.{IsKept}
use Rattle.nxt_asm_laws_code.proofs.KeptRules.{kept_accepted}
use Rattle.nxt_asm_laws_code.proofs.SourceBlocks.{program_kept}
use Rattle.nxt_asm_laws_code.proofs.SourceTexts.{text_known}

-- ---- rules of the assembler

-- the table of a text that keeps them is no larger than names reach
pub few_entries : (p : Text) → IsAccepted (Broken p) → sum_by size (all_shapes p) ≤ 49151
few_entries p accepted =
    let n : ℕ = entry_count p in
    let none : is_too_large p 0 n ≡ false = false_from_ne_true (is_too_large p 0 n) (λ is. accepted (TooLarge 0 n) is) in
    ltb-false 49151 n (sym (ap (λ b. b && nat_lt 49151 n) (eq-eqb n n refl)) ∙ none)

-- and no jump of it is far
pub near_jumps : (p : Text) → IsAccepted (Broken p) → (line : ℕ) → far_in_blocks line 0 p.blocks ≡ false
near_jumps p accepted line = false_from_ne_true (far_in_blocks line 0 p.blocks) (λ is. accepted (FarJump line) is)

-- ---- texts

-- the blocks of a program that the tokens of a text spell
pub spelled_kept : (text : List ℕ) (ts : List Token) (p : Text) → IsAccepted (text_rules.Broken text) → tokens_of text ≡ Ok ts
    → p ≡ program_of (source_of (formed (lines_of text ts)).forms) → sum_by size (all_shapes p) ≤ 49151 → (1 ≤ length p.blocks) × Each (IsKept p) p.blocks
spelled_kept text ts p accepted e spelled few =
    let src : Source = source_of (formed (lines_of text ts)).forms in
    let known = text_known text ts accepted e in
    subst (λ (x : Text). (1 ≤ length x.blocks) × Each (IsKept x) x.blocks) (sym spelled)
    (known.some, program_kept src (subst (λ x. sum_by size (all_shapes x) ≤ 49151) spelled few) known.parts known.names known.blocks)

-- ---- the code

-- the code of a program that the assembler accepts breaks none of the rules of code
pub code_accepted : (text : List ℕ) (p : NbcProgram) → IsParsed text p → IsAccepted (Broken (text_of p))
    → IsAccepted
    (code_rules.Broken
    (program (members (all_shapes (text_of p))) (records_from 0 (text_of p).blocks) (flat_map (λ b. b.dependents) (text_of p).blocks) (code_from (text_of p) 0 (text_of p).blocks)))
code_accepted text p parsed accepted =
    let is = sound text p parsed in
    let few = few_entries (text_of p) accepted in
    let kept = spelled_kept text parsed.tokens.0 (text_of p) parsed.accepted parsed.tokens.1 parsed.tokens.2 few in
    kept_accepted (text_of p) is.codable kept.0 is.blocks (near_jumps (text_of p) accepted) kept.1
