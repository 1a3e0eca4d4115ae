-- Immediates and numbers of blocks have as many bits as their types.
use Rattle.std.proofs.Common.{◌≡◌, ℕ, ◌+◌, ◌%◌, ◌<◌, ◌≤◌, Bool, true, false, List, [], ◌∷◌, length, pos, Option, Some, None, refl, arith}
use Rattle.std.specs.Prelude.{if◌then◌else◌, ℤ, negsuc, ⊤, nat_abs, option_and_then, option_map, slice_get, zip}
use Rattle.std.proofs.lemmas.Bool.Decides.{nat_tests}
use Rattle.nxt_types.specs.Arithmetic.{cut}
use Rattle.nxt_types.specs.Opcodes.{classes}
use Rattle.nxt_types.specs.declared.kind.Kind.TheVariants.{Slong}
use Rattle.nxt_types.specs.declared.instr.Op.TheVariants as ops
use Rattle.nxt_types.specs.declared.opcodes.Class.{Class}
use Rattle.nxt_types.specs.declared.opcodes.Class.TheVariants.{Immediate, Offset, OptionalOut, OptionalIn}
use Rattle.nxt_model.specs.declared.nbc.NbcArg.{NbcArg}
use Rattle.nxt_model.specs.declared.nbc.NbcArg.TheVariants as args
use Rattle.nxt_model.specs.declared.nbc.NbcStatement.{NbcStatement}
use Rattle.nxt_model.specs.Nbc.Forms as forms
use Rattle.nxt_model.specs.Nbc.Forms.{Form, Term, Named, Literal, Quote, TypeName}
use Rattle.nxt_model.specs.Nbc.Text.{Source, Variable, Block, Denoted, ANumber, ABlock, LabelAt, a_block, a_variable, arg_of, args_of, block_at, block_by, block_named, block_place, by_sort, denoted, denoted_arg, dependents_of, ending, is_left_out, is_word, label_arg, labels_from, member_of, named_block, number_arg, numbered, ordered, path_in, program_block, program_of, returning, sort_named, statement, statements_in, variable_named, NameSort}
use Rattle.nxt_model.specs.Nbc.Types.{Found, member_path}
use Rattle.nxt_asm_parts.specs.Sound.{AreShort, AreShortIn, IsShort}
use Rattle.nxt_asm_laws.proofs.Laws.Lists.{Each, all_each, each_all, each_flat, each_map, each_weaker}
use Rattle.nxt_asm_laws.proofs.Laws.Denoted.{name_has}
use Rattle.nxt_asm_laws.proofs.Laws.Dependents.{length-ordered, named_below, term_below}

-- ---- numbers

small_word : (z : ℤ) → is_word z ≡ true → nat_abs z < 65536
small_word (pos n) is = grind (arith, nat_tests)
small_word (negsuc n) is = absurd (grind (arith, nat_tests))

number_short : (c : Class) (z : ℤ) → IsShort (number_arg c z)
number_short Immediate z = by (is_word z) refl
  where
    by : (b : Bool) → is_word z ≡ b → IsShort (if b then args.Imm (nat_abs z) else args.Number (cut Slong z))
    by true is = small_word z is
    by false is = tt
number_short c z = tt

left_short : (b : Bool) (a : NbcArg) → IsShort a → IsShort (if b then args.Left else a)
left_short true a h = tt
left_short false a h = h

label_short : (ls : List LabelAt) (t : Term) → IsShort (label_arg ls t)
label_short ls (Named (l ∷ [])) = tt
label_short ls t = tt

ending_word : (n : ℕ) → (n + 65535) % 65536 < 65536
ending_word n = omega arith

-- ---- what an operand stands for

-- a block by a number that a byte holds
abbrev pub IsByte : Denoted → Type 0
IsByte (ABlock k sub) = k < 256
IsByte d = ⊤

denoted_short : (c : Class) (d : Denoted) → IsByte d → IsShort (denoted_arg c d)
denoted_short c (ANumber z) h = number_short c z
denoted_short c (ABlock k sub) h = h
denoted_short c d h = tt

member_byte : (src : Source) (i : ℕ) (o : Option Found) → IsByte (member_of src i o)
member_byte src i None = tt
member_byte src i (Some f) = tt

path_byte : (src : Source) (i : ℕ) (ns : List (List ℕ)) (o : Option Variable) → IsByte (path_in src i ns o)
path_byte src i ns None = tt
path_byte src i ns (Some v) = member_byte src i (member_path src.types v.type ns)

module _ (src : Source) (few : length src.blocks ≤ 255) where
  block_byte : (k : ℕ) → k < length (ordered src) → k < 256
  block_byte k lt = omega (arith, lt, few, length-ordered src)

  variable_byte : (o : Option ℕ) (ns : List (List ℕ)) → IsByte (a_variable src o ns)
  variable_byte None ns = tt
  variable_byte (Some i) ns = path_byte src i ns (slice_get src.vars i)

  named_byte : (name : List ℕ) → IsByte (a_block (block_by src name))
  named_byte name = by (block_named src name) (named_below src name)
    where
      there : (k : ℕ) (o : Option Block) → k < 256 → IsByte (a_block (option_map (block_place k) o))
      there k None lt = tt
      there k (Some b) lt = lt

      by : (o : Option ℕ) → ((i : ℕ) → o ≡ Some i → i < length (ordered src)) → IsByte (a_block (option_and_then (λ k. option_map (block_place k) (block_at src k)) o))
      by None below = tt
      by (Some k) below = there k (block_at src k) (block_byte k (below k refl))

  sort_byte : (line : ℕ) (o : Option NameSort) (name : List ℕ) (ns : List (List ℕ)) → IsByte (by_sort src line o name ns)
  sort_byte line o name ns = name_has (λ _ d. IsByte d) (λ _. tt) tt (λ n. tt) src line name ns (variable_byte (variable_named src name) ns) (named_byte name) o

  term_byte : (line : ℕ) (t : Term) → IsByte (denoted src line t)
  term_byte line (Literal z) = tt
  term_byte line (Quote s) = tt
  term_byte line (Named []) = tt
  term_byte line (Named (n ∷ ns)) = sort_byte line (sort_named src n) n ns

  -- ---- statements

  arg_short : (ls : List LabelAt) (line : ℕ) (c : Class) (t : Term) → IsShort (arg_of src ls line c t)
  arg_short ls line OptionalOut t =
      left_short (is_left_out src line t) (denoted_arg OptionalOut (denoted src line t)) (denoted_short OptionalOut (denoted src line t) (term_byte line t))
  arg_short ls line OptionalIn t =
      left_short (is_left_out src line t) (denoted_arg OptionalIn (denoted src line t)) (denoted_short OptionalIn (denoted src line t) (term_byte line t))
  arg_short ls line Offset t = label_short ls t
  arg_short ls line c t = denoted_short c (denoted src line t) (term_byte line t)

  short_by : (s : NbcStatement) → Each IsShort s.args → AreShort s
  short_by s h = all_each IsShort s.args h

  end_short : (line k n : ℕ) (sub : Bool) → AreShort (if sub then returning line k else ending line n)
  end_short line k n true = short_by (returning line k) (tt, tt)
  end_short line k n false = short_by (ending line n) (omega arith, (ending_word n, tt))

  line_short : (ls : List LabelAt) (k : ℕ) (sub : Bool) (n : ℕ) (l : ℕ × Form) → Each AreShort (statements_in src ls k sub n l)
  line_short ls k sub n (line, forms.Do label op cmp ts) =
      let arg : Class × Term → NbcArg = λ p. arg_of src ls line p.0 p.1 in
      let operands = zip (classes op (length ts)) ts in
      (short_by (statement line op cmp (args_of src ls line op ts)) (each_map IsShort arg operands (each_all _ operands (λ p. arg_short ls line p.0 p.1))), tt)
  line_short ls k sub n (line, forms.Call t) =
      let call : ℕ → NbcStatement = λ s. statement line ops.Subcall _ (args.Block s ∷ args.Back s ∷ []) in
      each_map AreShort call (named_block src t)
      (each_weaker (λ s. s < length (ordered src)) (λ s. AreShort (call s)) (named_block src t) (λ s lt. short_by (call s) (block_byte s lt, (tt, tt))) (term_below src t))
  line_short ls k sub n (line, forms.Return) = (end_short line k n true, tt)
  line_short ls k sub n (line, forms.Exit) = (end_short line k n false, tt)
  line_short ls k sub n (line, forms.ExitTo t) =
      let exit : ℕ → NbcStatement = λ s. statement line ops.Finclumpimmed _ (args.Block s ∷ []) in
      each_map AreShort exit (named_block src t)
      (each_weaker (λ s. s < length (ordered src)) (λ s. AreShort (exit s)) (named_block src t) (λ s lt. short_by (exit s) (block_byte s lt, tt)) (term_below src t))
  line_short ls k sub n (line, forms.CloseBlock) = (end_short line k n sub, tt)
  line_short ls k sub n (line, f) = tt

  block_short : (x : ℕ × Block) → AreShortIn (program_block src x)
  block_short (k, b) =
      let n = length (dependents_of src k b) in
      let statements : ℕ × Form → List NbcStatement = statements_in src (labels_from 0 b.items) k b.subroutine n in
      all_each AreShort (program_block src (k, b)).body (each_flat AreShort statements b.items (each_all _ b.items (λ l. line_short (labels_from 0 b.items) k b.subroutine n l)))

  -- the operands of all blocks
  pub blocks_short : Each AreShortIn (program_of src).blocks
  blocks_short = each_map AreShortIn (program_block src) (numbered src) (each_all _ (numbered src) block_short)
