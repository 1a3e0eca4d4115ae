-- What operands name is declared, with an entry among the variable's own.
use Rattle.std.proofs.Common.{◌≡◌, ℕ, ◌<◌, Bool, true, false, List, [], ◌∷◌, map, length, pos, Option, Some, None, refl, sym, ap, subst, ◌∙◌}
use Rattle.std.specs.Prelude.{if◌then◌else◌, ℤ, ⊤, nat_abs, option_map, slice_get, slice_index_or, zip}
use Rattle.std.proofs.lemmas.Option.{get_or_from_slice_get, slice_get-map, slice_get_within}
use Rattle.nxt_types.specs.Arithmetic.{cut}
use Rattle.nxt_types.specs.Names.{size}
use Rattle.nxt_types.specs.Opcodes.{classes}
use Rattle.nxt_types.specs.Shapes.{Shape, Void}
use Rattle.nxt_types.specs.declared.kind.Kind.TheVariants.{Slong}
use Rattle.nxt_types.specs.declared.instr.Op.TheVariants as ops
use Rattle.nxt_types.specs.declared.opcodes.Class.{Class}
use Rattle.nxt_types.specs.declared.opcodes.Class.TheVariants.{Immediate, Offset, OptionalOut, OptionalIn}
use Rattle.nxt_model.specs.declared.nbc.NbcArg.{NbcArg}
use Rattle.nxt_model.specs.declared.nbc.NbcArg.TheVariants as args
use Rattle.nxt_model.specs.declared.nbc.NbcStatement.{NbcStatement}
use Rattle.nxt_model.specs.Nbc.Forms as forms
use Rattle.nxt_model.specs.Nbc.Forms.{Form, Term, Named, Literal, Quote, TypeName}
use Rattle.nxt_model.specs.Nbc.Text.{Source, Variable, Block, Denoted, AVariable, ANumber, LabelAt, a_block, a_variable, arg_of, args_of, block_by, by_sort, denoted, denoted_arg, dependents_of, ending, is_left_out, is_word, label_arg, labels_from, member_of, named_block, number_arg, numbered, path_in, program_block, program_of, program_var, returning, sort_named, statement, statements_in, variable_named, NameSort}
use Rattle.nxt_model.specs.Nbc.Types.{Found, member_path, shape_in}
use Rattle.nxt_model.specs.declared.nbc.NbcType.{NbcType}
use Rattle.nxt_model.specs.Assembled.{entries_before}
use Rattle.nxt_model.specs.TextProgram as program
use Rattle.nxt_model.specs.TextProgram.{Text, declared}
use Rattle.nxt_asm_parts.specs.Sound.{AreNamed, AreNamedIn, IsNamed}
use Rattle.nxt_asm_laws.proofs.Laws.Lists.{Each, all_each, each_all, each_flat, each_map}
use Rattle.nxt_asm_laws.proofs.Laws.Denoted.{name_has}
use Rattle.nxt_asm_laws.proofs.Laws.Paths.{IsWithin}

-- ---- what an operand stands for

-- a part of a variable of these shapes
abbrev pub IsPart : List Shape → Denoted → Type 0
IsPart ss (AVariable i path s) = (i < length ss) × (entries_before path (slice_index_or ss i Void) < size (slice_index_or ss i Void))
IsPart ss d = ⊤

module _ (src : Source) (within : (t : NbcType) (ns : List (List ℕ)) → IsWithin (shape_in src.types t) (member_path src.types t ns)) where
  -- a variable stands among the declared shapes at its own position
  shape_there : (i : ℕ) (v : Variable) → slice_get src.vars i ≡ Some v → slice_get (declared (program_of src)) i ≡ Some (shape_in src.types v.type)
  shape_there i v e =
      let shape = λ (x : program.Variable). x.shape in
      let var = program_var src.types in
      slice_get-map shape (map var src.vars) i ∙ ap (option_map shape) (slice_get-map var src.vars i ∙ ap (option_map var) e)

  -- members lead to a part of it
  member_part : (i : ℕ) (v : Variable) (o : Option Found) → slice_get src.vars i ≡ Some v → IsWithin (shape_in src.types v.type) o → IsPart (declared (program_of src)) (member_of src i o)
  member_part i v None e h = tt
  member_part i v (Some f) e h =
      let s = shape_in src.types v.type in
      let there = shape_there i v e in
      let at : slice_index_or (declared (program_of src)) i Void ≡ s = get_or_from_slice_get (declared (program_of src)) i s Void there in
      (slice_get_within (declared (program_of src)) i s there, subst (λ x. entries_before f.0 x < size x) (sym at) h)

  path_part : (i : ℕ) (ns : List (List ℕ)) (o : Option Variable) → slice_get src.vars i ≡ o → IsPart (declared (program_of src)) (path_in src i ns o)
  path_part i ns None e = tt
  path_part i ns (Some v) e = member_part i v (member_path src.types v.type ns) e (within v.type ns)

  variable_part : (o : Option ℕ) (ns : List (List ℕ)) → IsPart (declared (program_of src)) (a_variable src o ns)
  variable_part None ns = tt
  variable_part (Some i) ns = path_part i ns (slice_get src.vars i) refl

  -- a block is no part
  block_part : (o : Option (ℕ × Bool)) → IsPart (declared (program_of src)) (a_block o)
  block_part None = tt
  block_part (Some b) = tt

  -- whatever an operand stands for, it is no part that isn't there
  sort_part : (line : ℕ) (o : Option NameSort) (name : List ℕ) (ns : List (List ℕ)) → IsPart (declared (program_of src)) (by_sort src line o name ns)
  sort_part line o name ns =
      name_has (λ _ d. IsPart (declared (program_of src)) d) (λ _. tt) tt (λ n. tt) src line name ns (variable_part (variable_named src name) ns) (block_part (block_by src name)) o

  term_part : (line : ℕ) (t : Term) → IsPart (declared (program_of src)) (denoted src line t)
  term_part line (Literal z) = tt
  term_part line (Quote s) = tt
  term_part line (Named []) = tt
  term_part line (Named (n ∷ ns)) = sort_part line (sort_named src n) n ns

  -- ---- operands

  -- numbers, texts, blocks, labels and what is left out name no variable
  number_arg_named : (c : Class) (z : ℤ) → IsNamed (program_of src) (number_arg c z)
  number_arg_named Immediate z = by (is_word z)
    where
      by : (b : Bool) → IsNamed (program_of src) (if b then args.Imm (nat_abs z) else args.Number (cut Slong z))
      by true = tt
      by false = tt
  number_arg_named c z = tt

  -- positions as the operand has them
  positions : (path : List ℕ) → map nat_abs (map pos path) ≡ path
  positions [] = refl
  positions (k ∷ path) = ap (λ ks. k ∷ ks) (positions path)

  denoted_named : (c : Class) (d : Denoted) → IsPart (declared (program_of src)) d → IsNamed (program_of src) (denoted_arg c d)
  denoted_named c (AVariable i path s) h =
      let whole = slice_index_or (declared (program_of src)) i Void in
      (h.0, subst (λ ks. entries_before ks whole < size whole) (sym (positions path)) h.1)
  denoted_named c (ANumber z) h = number_arg_named c z
  denoted_named c d h = tt

  left_named : (b : Bool) (a : NbcArg) → IsNamed (program_of src) a → IsNamed (program_of src) (if b then args.Left else a)
  left_named true a h = tt
  left_named false a h = h

  label_arg_named : (ls : List LabelAt) (t : Term) → IsNamed (program_of src) (label_arg ls t)
  label_arg_named ls (Named (l ∷ [])) = tt
  label_arg_named ls t = tt

  -- an operand of a statement
  arg_named : (ls : List LabelAt) (line : ℕ) (c : Class) (t : Term) → IsNamed (program_of src) (arg_of src ls line c t)
  arg_named ls line OptionalOut t =
      left_named (is_left_out src line t) (denoted_arg OptionalOut (denoted src line t)) (denoted_named OptionalOut (denoted src line t) (term_part line t))
  arg_named ls line OptionalIn t =
      left_named (is_left_out src line t) (denoted_arg OptionalIn (denoted src line t)) (denoted_named OptionalIn (denoted src line t) (term_part line t))
  arg_named ls line Offset t = label_arg_named ls t
  arg_named ls line c t = denoted_named c (denoted src line t) (term_part line t)

  -- ---- statements

  named_by : (s : NbcStatement) → Each (IsNamed (program_of src)) s.args → AreNamed (program_of src) s
  named_by s h = all_each (IsNamed (program_of src)) s.args h

  -- the statements of a line
  end_named : (line k n : ℕ) (sub : Bool) → AreNamed (program_of src) (if sub then returning line k else ending line n)
  end_named line k n true = named_by (returning line k) (tt, tt)
  end_named line k n false = named_by (ending line n) (tt, (tt, tt))

  line_named : (ls : List LabelAt) (k : ℕ) (sub : Bool) (n : ℕ) (l : ℕ × Form) → Each (AreNamed (program_of src)) (statements_in src ls k sub n l)
  line_named ls k sub n (line, forms.Do label op cmp ts) =
      let arg : Class × Term → NbcArg = λ p. arg_of src ls line p.0 p.1 in
      let operands = zip (classes op (length ts)) ts in
      (named_by (statement line op cmp (args_of src ls line op ts)) (each_map (IsNamed (program_of src)) arg operands (each_all _ operands (λ p. arg_named ls line p.0 p.1))), tt)
  line_named ls k sub n (line, forms.Call t) =
      let call : ℕ → NbcStatement = λ s. statement line ops.Subcall _ (args.Block s ∷ args.Back s ∷ []) in
      each_map (AreNamed (program_of src)) call (named_block src t) (each_all _ (named_block src t) (λ s. named_by (call s) (tt, (tt, tt))))
  line_named ls k sub n (line, forms.Return) = (named_by (returning line k) (tt, tt), tt)
  line_named ls k sub n (line, forms.Exit) = (named_by (ending line n) (tt, (tt, tt)), tt)
  line_named ls k sub n (line, forms.ExitTo t) =
      let exit : ℕ → NbcStatement = λ s. statement line ops.Finclumpimmed _ (args.Block s ∷ []) in
      each_map (AreNamed (program_of src)) exit (named_block src t) (each_all _ (named_block src t) (λ s. named_by (exit s) (tt, tt)))
  line_named ls k sub n (line, forms.CloseBlock) = (end_named line k n sub, tt)
  line_named ls k sub n (line, f) = tt

  -- and of a block
  block_has_named : (x : ℕ × Block) → AreNamedIn (program_of src) (program_block src x)
  block_has_named (k, b) =
      let n = length (dependents_of src k b) in
      let statements : ℕ × Form → List NbcStatement = statements_in src (labels_from 0 b.items) k b.subroutine n in
      all_each (AreNamed (program_of src)) (program_block src (k, b)).body
      (each_flat (AreNamed (program_of src)) statements b.items (each_all _ b.items (λ l. line_named (labels_from 0 b.items) k b.subroutine n l)))

  -- the operands of all blocks
  pub blocks_named : Each (AreNamedIn (program_of src)) (program_of src).blocks
  blocks_named = each_map (AreNamedIn (program_of src)) (program_block src) (numbered src) (each_all _ (numbered src) block_has_named)
