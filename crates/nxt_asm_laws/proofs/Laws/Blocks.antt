-- Statements of blocks that have long forms.
use Rattle.std.proofs.Common.{◌≡◌, ℕ, suc, ◌≤◌, Bool, true, false, not, List, [], ◌∷◌, length, Option, refl, sym, ap, ◌∙◌, arith}
use Rattle.std.specs.Prelude.{if◌then◌else◌, filter, zip}
use Rattle.std.proofs.lemmas.List.{length-map}
use Rattle.nxt_types.specs.Opcodes.{arity, classes, has_comparison, takes}
use Rattle.nxt_types.specs.declared.instr.Op.{Op}
use Rattle.nxt_types.specs.declared.instr.Op.TheVariants as ops
use Rattle.nxt_types.specs.declared.kind.Cmp.{Cmp}
use Rattle.nxt_types.specs.declared.kind.Cmp.TheVariants.{Lt}
use Rattle.nxt_types.specs.declared.opcodes.Class.{Class}
use Rattle.nxt_model.specs.declared.nbc.NbcArg.{NbcArg}
use Rattle.nxt_model.specs.declared.nbc.NbcArg.TheVariants as args
use Rattle.nxt_model.specs.declared.nbc.NbcStatement.{NbcStatement}
use Rattle.nxt_model.specs.Assembled.{code_op, has_constant}
use Rattle.nxt_model.specs.Nbc.Forms as forms
use Rattle.nxt_model.specs.Nbc.Forms.{Form, Term}
use Rattle.nxt_model.specs.Nbc.Text.{Source, Block, LabelAt, arg_of, args_of, dependents_of, ending, is_main, labels_from, named_block, numbered, ordered, program_block, program_of, returning, statement, statements_in}
use Rattle.nxt_nbc_lines.proofs.Laws.Classes.{count_classes}
use Rattle.nxt_asm_parts.specs.Codable.{IsCodable, IsCodableBlock}
use Rattle.nxt_asm_laws.proofs.Laws.Lists.{Each, all_each, each_all, each_append, each_filter, each_flat, each_map, each_numbered, each_weaker}
use Rattle.nxt_asm_laws.proofs.Laws.Forms.{IsFormed, LineFormed}

-- ---- codes

-- the code's operation takes as many operands, and compares where the operation does
pub arity-code_op : (op : Op) (xs : List NbcArg) → arity (code_op op xs) ≡ arity op
arity-code_op ops.Set xs = by (has_constant xs)
  where
    by : (b : Bool) → arity (if b then ops.Mov else ops.Set) ≡ arity ops.Set
    by true = refl
    by false = refl
arity-code_op op xs = refl

has_comparison-code_op : (op : Op) (xs : List NbcArg) → has_comparison (code_op op xs) ≡ has_comparison op
has_comparison-code_op ops.Set xs = by (has_constant xs)
  where
    by : (b : Bool) → has_comparison (if b then ops.Mov else ops.Set) ≡ has_comparison ops.Set
    by true = refl
    by false = refl
has_comparison-code_op op xs = refl

-- ---- statements

-- as many operands as terms
length-zip : {X Y : Type 0} (xs : List X) (ys : List Y) → length xs ≡ length ys → length (zip xs ys) ≡ length ys
length-zip [] [] e = refl
length-zip [] (y ∷ ys) e = absurd (omega (arith, e))
length-zip (x ∷ xs) [] e = absurd (omega (arith, e))
length-zip (x ∷ xs) (y ∷ ys) e = ap suc (length-zip xs ys (omega (arith, e)))

-- a statement with as many operands as it takes has a long form
codable : (line : ℕ) (op : Op) (cmp : Cmp) (xs : List NbcArg) (n : ℕ) → length xs ≡ n → takes (arity op) n ≡ true → n ≤ 32765 → (has_comparison op ≡ false → cmp ≡ Lt)
    → IsCodable (statement line op cmp xs)
codable line op cmp xs n count taken most plain = record {
  number = ap (λ a. takes a (length xs)) (arity-code_op op xs) ∙ ap (takes (arity op)) count ∙ taken;
  few = omega (arith, count, most);
  plain = λ no. plain (sym (has_comparison-code_op op xs) ∙ no);
}

module _ (src : Source) (ls : List LabelAt) where
  -- the statements of a line
  do_codable : (line : ℕ) (op : Op) (cmp : Cmp) (ts : List Term) (label : Option (List ℕ)) → IsFormed (forms.Do label op cmp ts)
      → IsCodable (statement line op cmp (args_of src ls line op ts))
  do_codable line op cmp ts label h =
      let operands : List (Class × Term) = zip (classes op (length ts)) ts in
      let arg : Class × Term → NbcArg = λ p. arg_of src ls line p.0 p.1 in
      codable line op cmp (args_of src ls line op ts) (length ts)
      (length-map operands arg ∙ length-zip (classes op (length ts)) ts (count_classes op (length ts) h.0)) h.0 h.1 h.2

  end_codable : (line k n : ℕ) (sub : Bool) → IsCodable (if sub then returning line k else ending line n)
  end_codable line k n true = codable line ops.Subret Lt (args.Back k ∷ []) 1 refl refl (omega arith) (λ no. refl)
  end_codable line k n false = codable line ops.Finclump Lt (ending line n).args 2 refl refl (omega arith) (λ no. refl)

  line_codable : (k : ℕ) (sub : Bool) (n : ℕ) (l : ℕ × Form) → LineFormed l → Each IsCodable (statements_in src ls k sub n l)
  line_codable k sub n (line, forms.Do label op cmp ts) h = (do_codable line op cmp ts label h, tt)
  line_codable k sub n (line, forms.Call t) h =
      let call : ℕ → NbcStatement = λ s. statement line ops.Subcall Lt (args.Block s ∷ args.Back s ∷ []) in
      each_map IsCodable call (named_block src t)
      (each_all _ (named_block src t) (λ s. codable line ops.Subcall Lt (args.Block s ∷ args.Back s ∷ []) 2 refl refl (omega arith) (λ no. refl)))
  line_codable k sub n (line, forms.Return) h = (end_codable line k n true, tt)
  line_codable k sub n (line, forms.Exit) h = (end_codable line k n false, tt)
  line_codable k sub n (line, forms.ExitTo t) h =
      let exit : ℕ → NbcStatement = λ s. statement line ops.Finclumpimmed Lt (args.Block s ∷ []) in
      each_map IsCodable exit (named_block src t)
      (each_all _ (named_block src t) (λ s. codable line ops.Finclumpimmed Lt (args.Block s ∷ []) 1 refl refl (omega arith) (λ no. refl)))
  line_codable k sub n (line, forms.CloseBlock) h = (end_codable line k n sub, tt)
  line_codable k sub n (line, f) h = tt

-- ---- blocks

abbrev ItemsFormed : Block → Type 0
ItemsFormed b = Each LineFormed b.items

-- and of a block
block_codable : (src : Source) (x : ℕ × Block) → ItemsFormed x.1 → IsCodableBlock (program_block src x)
block_codable src (k, b) h =
    let n = length (dependents_of src k b) in
    let ls = labels_from 0 b.items in
    all_each IsCodable (program_block src (k, b)).body
    (each_flat IsCodable (statements_in src ls k b.subroutine n) b.items (each_weaker LineFormed _ b.items (λ l. line_codable src ls k b.subroutine n l) h))

-- the statements of all blocks
pub blocks_codable : (src : Source) → Each (λ (b : Block). Each LineFormed b.items) src.blocks → Each IsCodableBlock (program_of src).blocks
blocks_codable src h =
    let others = λ (b : Block). not (is_main b) in
    each_map IsCodableBlock (program_block src) (numbered src)
    (each_weaker (λ x. ItemsFormed x.1) _ (numbered src) (block_codable src)
    (each_numbered ItemsFormed 0 (ordered src)
    (each_append ItemsFormed (filter is_main src.blocks) (filter others src.blocks) (each_filter ItemsFormed is_main src.blocks h) (each_filter ItemsFormed others src.blocks h))))
