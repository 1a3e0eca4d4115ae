-- The operands of a text that keeps the rules are of the classes that their words are read by.
use Rattle.std.proofs.Common.{ℕ, ◌≤◌, Bool, true, false, List, [], ◌∷◌, length, refl}
use Rattle.std.specs.Prelude.{if◌then◌else◌, sum_by}
use Rattle.nxt_types.specs.Names.{size}
use Rattle.nxt_types.specs.declared.kind.Cmp.TheVariants.{Lt}
use Rattle.nxt_types.specs.declared.instr.Op.TheVariants as ops
use Rattle.nxt_model.specs.declared.nbc.NbcArg.TheVariants as args
use Rattle.nxt_model.specs.declared.nbc.NbcBlock.{NbcBlock}
use Rattle.nxt_model.specs.declared.nbc.NbcStatement.{NbcStatement}
use Rattle.nxt_model.specs.Nbc.Forms as forms
use Rattle.nxt_model.specs.Nbc.Forms.{Form, Term}
use Rattle.nxt_model.specs.Nbc.Text.{Source, Block, LabelAt, denoted, dependents_of, ending, labels_from, named_block, numbered, program_block, program_of, returning, statement, statements_in}
use Rattle.nxt_model.specs.Assembled.{all_shapes}
use Rattle.nxt_asm_laws.proofs.Laws.Lists.{Each, each_all, each_both, each_flat, each_map, each_weaker}
use Rattle.nxt_asm_laws_code.specs.Suits.{IsSuited}
use Rattle.nxt_asm_laws_code.proofs.Listed.{IsListed, blocks_listed, each_parts}
use Rattle.nxt_asm_laws_code.proofs.SourceBlocks.{do_fine, each_mapped}
use Rattle.nxt_asm_laws_code.proofs.SourceLines.{IsKeptAt, IsKeptLine}
use Rattle.nxt_asm_laws_code.proofs.SourceSuits.{do_suited}
use Rattle.nxt_asm_laws_code.proofs.SourceTerms.{HasPart, NamesBlock}

module _ (src : Source) (few : sum_by size (all_shapes (program_of src)) ≤ 49151) (parts : (line : ℕ) (t : Term) → HasPart src (denoted src line t))
    (names : (line : ℕ) (t : Term) → NamesBlock src t (denoted src line t)) where
  module _ (ls : List LabelAt) (k : ℕ) (b : Block) (n : ℕ) where
    closing_suited : (line : ℕ) (c : Bool) → IsSuited (if c then returning line k else ending line n)
    closing_suited line true = (refl, tt)
    closing_suited line false = (refl, (refl, tt))

    -- the statements of a line
    line_suited : (l : ℕ × Form) → IsKeptLine src ls l → Each (λ (s : NbcStatement). Each (IsListed (program_of src)) s.args) (statements_in src ls k b.subroutine n l)
        → Each IsSuited (statements_in src ls k b.subroutine n l)
    line_suited (line, forms.Do label op cmp ts) h listed = (do_suited src few parts names ls line op cmp ts (do_fine src few parts names ls line label op cmp ts h listed.0) h.formed.3, tt)
    line_suited (line, forms.Call t) h listed =
        each_map IsSuited (λ s. statement line ops.Subcall Lt (args.Block s ∷ args.Back s ∷ [])) (named_block src t) (each_all _ (named_block src t) (λ s. (refl, (refl, tt))))
    line_suited (line, forms.Return) h listed = ((refl, tt), tt)
    line_suited (line, forms.Exit) h listed = ((refl, (refl, tt)), tt)
    line_suited (line, forms.ExitTo t) h listed =
        each_map IsSuited (λ s. statement line ops.Finclumpimmed Lt (args.Block s ∷ [])) (named_block src t) (each_all _ (named_block src t) (λ s. (refl, tt)))
    line_suited (line, forms.CloseBlock) h listed = (closing_suited line b.subroutine, tt)
    line_suited (line, f) h listed = tt

  -- a block
  block_suited : (x : ℕ × Block) → IsKeptAt src x → Each (λ (s : NbcStatement). Each (IsListed (program_of src)) s.args) (program_block src x).body → Each IsSuited (program_block src x).body
  block_suited (k, b) h listed =
      let n : ℕ = length (dependents_of src k b) in
      let ls : List LabelAt = labels_from 0 b.items in
      let of_line : ℕ × Form → List NbcStatement = statements_in src ls k b.subroutine n in
      let Listed : NbcStatement → Type 0 = λ s. Each (IsListed (program_of src)) s.args in
      each_flat IsSuited of_line b.items
      (each_weaker (λ l. IsKeptLine src ls l × Each Listed (of_line l)) _ b.items (λ l f. line_suited ls k b n l f.0 f.1)
      (each_both (IsKeptLine src ls) (λ l. Each Listed (of_line l)) b.items h.kept.lines (each_parts Listed of_line b.items listed)))

  -- all blocks
  pub program_suited : Each (IsKeptAt src) (numbered src) → Each (λ (b : NbcBlock). Each IsSuited b.body) (program_of src).blocks
  program_suited h =
      let Listed : NbcBlock → Type 0 = λ b. Each (λ (s : NbcStatement). Each (IsListed (program_of src)) s.args) b.body in
      each_map (λ (b : NbcBlock). Each IsSuited b.body) (program_block src) (numbered src)
      (each_weaker (λ x. IsKeptAt src x × Listed (program_block src x)) _ (numbered src) (λ x f. block_suited x f.0 f.1)
      (each_both (IsKeptAt src) (λ x. Listed (program_block src x)) (numbered src) h (each_mapped src few parts names Listed (program_block src) (numbered src) (blocks_listed (program_of src)))))
