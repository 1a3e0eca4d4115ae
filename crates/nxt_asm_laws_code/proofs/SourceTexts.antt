-- What is known of a text that keeps the rules.
use Rattle.std.proofs.Common.{◌≡◌, ℕ, ◌≤◌, ◌||◌, true, false, List, [], ◌∷◌, length, Ok, refl, arith}
use Rattle.std.specs.List.{list_any}
use Rattle.std.proofs.lemmas.Bool.{both_ways, false_from_ne_true, not-false, or_parts}
use Rattle.nxt_types.specs.Refusals.{IsAccepted}
use Rattle.nxt_model.specs.Nbc.Forms.{Formed, formed}
use Rattle.nxt_model.specs.Nbc.NbcRules as text_rules
use Rattle.nxt_model.specs.Nbc.NbcRules.{TextFault, Lex, NoMain, Syntax, at_line, has_large_type, has_wrong_text, is_at, tells}
use Rattle.nxt_model.specs.Nbc.Text.{Source, Block, is_main, program_of, source_of}
use Rattle.nxt_model.specs.Nbc.Tokens.{Token, lines_of, tokens_of}
use Rattle.nxt_nbc_lines.specs.Firsts.{Ascends}
use Rattle.nxt_nbc_lines.proofs.Laws.Ascending.{forms_ascend}
use Rattle.nxt_asm_laws.proofs.Laws.Dependents.{length-program_of}
use Rattle.nxt_asm_laws.proofs.Laws.Forms.{LineFormed}
use Rattle.nxt_asm_laws.proofs.Laws.Lines.{each_formed}
use Rattle.nxt_asm_laws.proofs.Laws.Lists.{Each}
use Rattle.nxt_asm_laws.proofs.Laws.Types.{types_ordered}
use Rattle.nxt_asm_laws_code.specs.Lines.{IsGood}
use Rattle.nxt_asm_laws_code.proofs.SourceForms.{blocks_good, no_bad}
use Rattle.nxt_asm_laws_code.proofs.SourceLines.{blocks_kept, numbered_kept}
use Rattle.nxt_asm_laws_code.proofs.SourceTerms.{term_block, term_part}
use Rattle.nxt_model.specs.Nbc.Forms.{Term}
use Rattle.nxt_model.specs.Nbc.Text.{denoted, numbered}
use Rattle.nxt_asm_laws_code.proofs.SourceLines.{IsKeptAt}
use Rattle.nxt_asm_laws_code.proofs.SourceTerms.{HasPart, NamesBlock}

-- no rule is broken by what the tokens spell
nothing_told : (text : List ℕ) (ts : List Token) → IsAccepted (text_rules.Broken text) → tokens_of text ≡ Ok ts → (f : TextFault) → tells (formed (lines_of text ts)) f ≡ false
nothing_told text ts accepted e (Lex line) = refl
nothing_told text ts accepted e f = false_from_ne_true (tells (formed (lines_of text ts)) f) (λ is. accepted f (ts, e, is))

-- a main thread is a block
some_block : (bs : List Block) → list_any is_main bs ≡ true → 1 ≤ length bs
some_block [] e = absurd (both_ways false refl e)
some_block (b ∷ bs) e = omega arith

module _ (fd : Formed) (told : (f : TextFault) → tells fd f ≡ false) (up : Ascends 0 fd.forms) (whole : Each LineFormed fd.forms) where
  abbrev src : Source
  src = source_of fd.forms

  -- there is a main thread
  blocks_some : 1 ≤ length (program_of src).blocks
  blocks_some =
      let one = some_block src.blocks (not-false (list_any is_main src.blocks) (told NoMain)) in
      let all = length-program_of src in
      omega (arith, one, all)

  -- no line is bad
  none_bad : (line : ℕ) → is_at line fd.bad ≡ false
  none_bad line =
      (or_parts (is_at line fd.bad)
      (list_any (λ f. has_large_type src.types line f || has_wrong_text src.types line f) (at_line line fd.forms)) (told (Syntax line))).0

  -- what terms stand for, and what is known of the blocks
  pub parts_known : (line : ℕ) (t : Term) → HasPart src (denoted src line t)
  parts_known = term_part src (types_ordered fd.forms)

  pub blocks_known : Each IsGood src.blocks → Each (IsKeptAt src) (numbered src)
  blocks_known good = numbered_kept src (blocks_kept fd told whole good)

-- what is known of a text that the tokens spell
pub record IsKnown (src : Source) : Type 0 where
  pub some : 1 ≤ length (program_of src).blocks
  pub parts : (line : ℕ) (t : Term) → HasPart src (denoted src line t)
  pub names : (line : ℕ) (t : Term) → NamesBlock src t (denoted src line t)
  pub blocks : Each (IsKeptAt src) (numbered src)

pub text_known : (text : List ℕ) (ts : List Token) → IsAccepted (text_rules.Broken text) → tokens_of text ≡ Ok ts → IsKnown (source_of (formed (lines_of text ts)).forms)
text_known text ts accepted e =
    let fd = formed (lines_of text ts) in
    let told = nothing_told text ts accepted e in
    let up = forms_ascend text ts e in
    let whole : Each LineFormed fd.forms = each_formed (lines_of text ts) [] in
    let good : Each IsGood (source_of fd.forms).blocks = blocks_good (lines_of text ts) [] (no_bad fd.bad (none_bad fd told up whole)) in
    record {
      some = blocks_some fd told up whole;
      parts = parts_known fd told up whole;
      names = term_block (source_of fd.forms);
      blocks = blocks_known fd told up whole good;
    }
