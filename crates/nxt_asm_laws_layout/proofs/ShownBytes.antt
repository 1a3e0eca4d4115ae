-- The texts between quotes, as starts and as operands, are of shown bytes.
use Rattle.std.proofs.Common.{◌≡◌, ℕ, Bool, true, false, List, [], ◌∷◌, map, filter, flat_map, Option, Some, None, Ok, subst, length}
use Rattle.std.specs.Prelude.{⊤, ℤ, if◌then◌else◌, nat_abs, not, slice_get, zip}
use Rattle.std.proofs.lemmas.Option.{none-some, same_Some}
use Rattle.nxt_types.specs.Arithmetic.{cut}
use Rattle.nxt_types.specs.Opcodes.{classes}
use Rattle.nxt_types.specs.declared.kind.Cmp.TheVariants.{Lt}
use Rattle.nxt_types.specs.declared.kind.Kind.TheVariants.{Slong}
use Rattle.nxt_types.specs.declared.instr.Op.TheVariants as ops
use Rattle.nxt_types.specs.declared.instr.Op.{Op}
use Rattle.nxt_types.specs.declared.opcodes.Class.{Class}
use Rattle.nxt_types.specs.declared.opcodes.Class.TheVariants.{Immediate, Offset, OptionalOut, OptionalIn}
use Rattle.nxt_model.specs.declared.nbc.NbcArg.{NbcArg}
use Rattle.nxt_model.specs.declared.nbc.NbcArg.TheVariants as args
use Rattle.nxt_model.specs.declared.nbc.NbcBlock.{NbcBlock}
use Rattle.nxt_model.specs.declared.nbc.NbcStatement.{NbcStatement}
use Rattle.nxt_model.specs.Nbc.Tokens.{Token, lines_of, tokens_of}
use Rattle.nxt_model.specs.Nbc.Forms as forms
use Rattle.nxt_model.specs.Nbc.Forms.{Form, Term, Named, Literal, Quote, formed}
use Rattle.nxt_model.specs.Nbc.Text.{Source, Variable, Block, Denoted, ANumber, AText, LabelAt, arg_of, args_of, blocks_in, denoted, denoted_arg, dependents_of, ending, is_left_out, is_main, is_word, items_of, label_arg, labels_from, member_of, named_block, number_arg, numbered, ordered, path_in, program_block, program_of, returning, source_of, statement, statements_in, variable_named, variable_of, a_block, a_variable, block_by, by_sort, sort_named, NameSort}
use Rattle.nxt_model.specs.Nbc.Structs.{types_of}
use Rattle.nxt_model.specs.Nbc.Types.{Found, Struct, member_path}
use Rattle.nxt_model.specs.TextProgram.{all_args}
use Rattle.nxt_facts.proofs.Each.{Each, each_filter, each_flat, each_from, each_join, each_mapped, each_then}
use Rattle.nxt_asm_laws.proofs.Laws.Denoted.{name_has}
use Rattle.nxt_asm_laws.proofs.Laws.Lists.{each_given, each_numbered, each_weaker}
use Rattle.nxt_asm_laws_layout.proofs.TextValues.{ArgBytes, AreSmallBytes, GivenBytes}
use Rattle.nxt_asm_laws_layout.proofs.ShownWords.{lines_ok}
use Rattle.nxt_asm_laws_layout.proofs.ShownForms.{FormOk, LineFormOk, TermOk, forms_ok}

-- ---- operands

abbrev DenotedOk : Denoted → Type 0
DenotedOk (AText s) = AreSmallBytes s
DenotedOk d = ⊤

number_ok : (c : Class) (z : ℤ) → ArgBytes (number_arg c z)
number_ok Immediate z = by (is_word z)
  where
    by : (b : Bool) → ArgBytes (if b then args.Imm (nat_abs z) else args.Number (cut Slong z))
    by true = tt
    by false = tt
number_ok c z = tt

denoted_arg_ok : (c : Class) (d : Denoted) → DenotedOk d → ArgBytes (denoted_arg c d)
denoted_arg_ok c (ANumber z) h = number_ok c z
denoted_arg_ok c (AText s) h = h
denoted_arg_ok c d h = tt

left_ok : (b : Bool) (a : NbcArg) → ArgBytes a → ArgBytes (if b then args.Left else a)
left_ok true a h = tt
left_ok false a h = h

label_ok : (ls : List LabelAt) (t : Term) → ArgBytes (label_arg ls t)
label_ok ls (Named (l ∷ [])) = tt
label_ok ls t = tt

member_denoted : (src : Source) (i : ℕ) (o : Option Found) → DenotedOk (member_of src i o)
member_denoted src i None = tt
member_denoted src i (Some f) = tt

path_denoted : (src : Source) (i : ℕ) (ns : List (List ℕ)) (o : Option Variable) → DenotedOk (path_in src i ns o)
path_denoted src i ns None = tt
path_denoted src i ns (Some v) = member_denoted src i (member_path src.types v.type ns)

block_denoted : (o : Option (ℕ × Bool)) → DenotedOk (a_block o)
block_denoted None = tt
block_denoted (Some b) = tt

module _ (src : Source) where
  variable_denoted : (o : Option ℕ) (ns : List (List ℕ)) → DenotedOk (a_variable src o ns)
  variable_denoted None ns = tt
  variable_denoted (Some i) ns = path_denoted src i ns (slice_get src.vars i)

  sort_denoted : (line : ℕ) (o : Option NameSort) (name : List ℕ) (ns : List (List ℕ)) → DenotedOk (by_sort src line o name ns)
  sort_denoted line o name ns =
      name_has (λ _ d. DenotedOk d) (λ _. tt) tt (λ n. tt) src line name ns (variable_denoted (variable_named src name) ns) (block_denoted (block_by src name)) o

  term_denoted : (line : ℕ) (t : Term) → TermOk t → DenotedOk (denoted src line t)
  term_denoted line (Literal z) h = tt
  term_denoted line (Quote s) h = h
  term_denoted line (Named []) h = tt
  term_denoted line (Named (n ∷ ns)) h = sort_denoted line (sort_named src n) n ns

  arg_ok : (ls : List LabelAt) (line : ℕ) (c : Class) (t : Term) → TermOk t → ArgBytes (arg_of src ls line c t)
  arg_ok ls line OptionalOut t h =
      left_ok (is_left_out src line t) (denoted_arg OptionalOut (denoted src line t)) (denoted_arg_ok OptionalOut (denoted src line t) (term_denoted line t h))
  arg_ok ls line OptionalIn t h =
      left_ok (is_left_out src line t) (denoted_arg OptionalIn (denoted src line t)) (denoted_arg_ok OptionalIn (denoted src line t) (term_denoted line t h))
  arg_ok ls line Offset t h = label_ok ls t
  arg_ok ls line c t h = denoted_arg_ok c (denoted src line t) (term_denoted line t h)

  zip_ok : (cs : List Class) (ts : List Term) → Each TermOk ts → Each (λ (x : Class × Term). TermOk x.1) (zip cs ts)
  zip_ok [] ts h = tt
  zip_ok (c ∷ cs) [] h = tt
  zip_ok (c ∷ cs) (t ∷ ts) h = (h.0, zip_ok cs ts h.1)

  abbrev StatementOk : NbcStatement → Type 0
  StatementOk s = Each ArgBytes s.args

  end_ok : (line k n : ℕ) (sub : Bool) → StatementOk (if sub then returning line k else ending line n)
  end_ok line k n true = (tt, tt)
  end_ok line k n false = (tt, (tt, tt))

  args_ok : (ls : List LabelAt) (line : ℕ) (op : Op) (ts : List Term) → Each TermOk ts → Each ArgBytes (args_of src ls line op ts)
  args_ok ls line op ts h =
      let arg : Class × Term → NbcArg = λ x. arg_of src ls line x.0 x.1 in
      let operands = zip (classes op (length ts)) ts in
      each_mapped ArgBytes arg operands (each_then (λ (x : Class × Term). TermOk x.1) (λ x. ArgBytes (arg x)) (λ x k. arg_ok ls line x.0 x.1 k) operands (zip_ok (classes op (length ts)) ts h))

  line_ok : (ls : List LabelAt) (k : ℕ) (sub : Bool) (n : ℕ) (l : ℕ × Form) → FormOk l.1 → Each StatementOk (statements_in src ls k sub n l)
  line_ok ls k sub n (line, forms.Do label op cmp ts) h = (args_ok ls line op ts h, tt)
  line_ok ls k sub n (line, forms.Call t) h =
      let call : ℕ → NbcStatement = λ s. statement line ops.Subcall Lt (args.Block s ∷ args.Back s ∷ []) in
      each_mapped StatementOk call (named_block src t) (each_from _ (λ s. (tt, (tt, tt))) (named_block src t))
  line_ok ls k sub n (line, forms.Return) h = (end_ok line k n true, tt)
  line_ok ls k sub n (line, forms.Exit) h = (end_ok line k n false, tt)
  line_ok ls k sub n (line, forms.ExitTo t) h =
      let exit : ℕ → NbcStatement = λ s. statement line ops.Finclumpimmed Lt (args.Block s ∷ []) in
      each_mapped StatementOk exit (named_block src t) (each_from _ (λ s. (tt, tt)) (named_block src t))
  line_ok ls k sub n (line, forms.CloseBlock) h = (end_ok line k n sub, tt)
  line_ok ls k sub n (line, f) h = tt

  abbrev ItemsOk : Block → Type 0
  ItemsOk b = Each LineFormOk b.items

  abbrev BlockOk : NbcBlock → Type 0
  BlockOk b = Each ArgBytes (flat_map (λ s. s.args) b.body)

  block_ok : (x : ℕ × Block) → ItemsOk x.1 → BlockOk (program_block src x)
  block_ok (k, b) h =
      let n = length (dependents_of src k b) in
      let ls = labels_from 0 b.items in
      each_flat ArgBytes (λ s. s.args) (program_block src (k, b)).body
      (each_flat StatementOk (statements_in src ls k b.subroutine n) b.items
      (each_then LineFormOk (λ l. Each StatementOk (statements_in src ls k b.subroutine n l)) (λ l. line_ok ls k b.subroutine n l) b.items h))

  blocks_ok : Each ItemsOk src.blocks → Each ArgBytes (all_args (program_of src))
  blocks_ok h =
      let others = λ (b : Block). not (is_main b) in
      let keep : (test : Block → Bool) → Each ItemsOk (filter test src.blocks) = λ test. each_filter ItemsOk test src.blocks (each_then ItemsOk (λ b. test b ≡ true → ItemsOk b) (λ b k _. k) src.blocks h) in
      each_flat ArgBytes (λ (b : NbcBlock). flat_map (λ s. s.args) b.body) (map (program_block src) (numbered src))
      (each_mapped BlockOk (program_block src) (numbered src)
      (each_then (λ (x : ℕ × Block). ItemsOk x.1) (λ x. BlockOk (program_block src x)) block_ok (numbered src)
      (each_numbered ItemsOk 0 (ordered src) (each_join ItemsOk (filter is_main src.blocks) (filter others src.blocks) (keep is_main) (keep others)))))

-- ---- forms

items_ok : (fs : List (ℕ × Form)) → Each LineFormOk fs → Each LineFormOk (items_of fs)
items_ok [] h = tt
items_ok ((l, forms.CloseBlock) ∷ fs) h = (tt, tt)
items_ok ((l, f) ∷ fs) h = (h.0, items_ok fs h.1)

blocks_of_ok : (fs : List (ℕ × Form)) → Each LineFormOk fs → Each (λ (b : Block). Each LineFormOk b.items) (blocks_in fs)
blocks_of_ok [] h = tt
blocks_of_ok ((l, forms.OpenThread name) ∷ fs) h = (items_ok fs h.1, blocks_of_ok fs h.1)
blocks_of_ok ((l, forms.OpenSubroutine name) ∷ fs) h = (items_ok fs h.1, blocks_of_ok fs h.1)
blocks_of_ok ((l, f) ∷ fs) h = blocks_of_ok fs h.1

given_ok : (types : List Struct) (l : ℕ × Form) → LineFormOk l → (v : Variable) → variable_of types l ≡ Some v → GivenBytes v.given
given_ok types (l, forms.Declare n t g) h v e = subst (λ (x : Variable). GivenBytes x.given) (same_Some _ v e) h
given_ok types (l, f) h v e = absurd (none-some v e)

all_forms : (text : List ℕ) (ts : List Token) → tokens_of text ≡ Ok ts → Each LineFormOk (formed (lines_of text ts)).forms
all_forms text ts e = forms_ok (lines_of text ts) [] (lines_ok text ts e)

-- the texts with which variables start
pub starts_shown : (text : List ℕ) (ts : List Token) → tokens_of text ≡ Ok ts → Each (λ (v : Variable). GivenBytes v.given) (source_of (formed (lines_of text ts)).forms).vars
starts_shown text ts e =
    let fs = (formed (lines_of text ts)).forms in
    each_given (λ (v : Variable). GivenBytes v.given) (variable_of (types_of fs).structs) fs (each_weaker LineFormOk _ fs (given_ok (types_of fs).structs) (all_forms text ts e))

-- and those that are operands
pub args_shown : (text : List ℕ) (ts : List Token) → tokens_of text ≡ Ok ts → Each ArgBytes (all_args (program_of (source_of (formed (lines_of text ts)).forms)))
args_shown text ts e =
    let fs = (formed (lines_of text ts)).forms in
    blocks_ok (source_of fs) (blocks_of_ok fs (all_forms text ts e))
