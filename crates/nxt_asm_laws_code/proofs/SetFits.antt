-- The operands of sets and of the statements that lines of their own stand for fit by their words.
use Rattle.std.proofs.Common.{◌≡◌, ℕ, zero, suc, ◌<◌, ◌≤◌, Bool, true, false, ◌&&◌, ◌||◌, List, [], ◌∷◌, length, refl, sym, ap, subst, ◌∙◌, arith, eqb-true}
use Rattle.std.specs.Prelude.{if◌then◌else◌, ℤ, nat_abs, sum_by}
use Rattle.std.proofs.lemmas.Bool.{both_ways, lt-ltb}
use Rattle.nxt_types.specs.Arithmetic.{cut}
use Rattle.nxt_types.specs.Names.{named, size}
use Rattle.nxt_types.specs.OperandRules as image
use Rattle.nxt_types.specs.OperandRules.{Part, Sort, is_of_class, is_value, operand_fits, shape_of, sort_of_name}
use Rattle.nxt_types.specs.Shapes.{Array, Cluster, Members, Mutex, Number, Shape, Void, convertible, is_number, members}
use Rattle.nxt_types.specs.Statements.{statement}
use Rattle.nxt_types.specs.declared.instr.Op.TheVariants as ops
use Rattle.nxt_types.specs.declared.kind.Cmp.{Cmp}
use Rattle.nxt_types.specs.declared.kind.Cmp.TheVariants.{Lt}
use Rattle.nxt_types.specs.declared.kind.Kind.TheVariants.{Slong}
use Rattle.nxt_types.specs.declared.opcodes.Class.TheVariants.{Immediate, NumberOut}
use Rattle.nxt_model.specs.declared.nbc.NbcArg.{NbcArg}
use Rattle.nxt_model.specs.declared.nbc.NbcArg.TheVariants as args
use Rattle.nxt_model.specs.Nbc.Forms.{Term}
use Rattle.nxt_model.specs.Nbc.NbcRules as rules
use Rattle.nxt_model.specs.Nbc.NbcRules.{sort_of_denoted}
use Rattle.nxt_model.specs.Nbc.Text as text
use Rattle.nxt_model.specs.Nbc.Text.{Source, Denoted, AVariable, ANumber, AText, ABlock, AType, Missing, LabelAt, args_of, denoted, denoted_arg, ending, is_word, number_arg, program_of, returning}
use Rattle.nxt_model.specs.Assembled.{all_shapes, arg_word, code_op, is_constant}
use Rattle.nxt_model.specs.TextProgram.{Text, returns, subroutine_number}
use Rattle.nxt_asm_laws_code.specs.Kept.{HasFit}
use Rattle.nxt_asm_laws_code.proofs.Listed.{IsListed}
use Rattle.nxt_asm_laws_code.proofs.SourceTerms.{HasPart, NamesBlock}
use Rattle.nxt_asm_laws_code.proofs.StatementFits.{IsFine, right_class, right_term}
use Rattle.nxt_asm_laws_code.proofs.TermOperands.{number_entry, part_same, return_entry}

-- ---- sets

-- what is set is no constant
pub plain_first : (d : Denoted) → is_of_class 1 NumberOut (sort_of_denoted NumberOut true d) ≡ true → is_constant (denoted_arg NumberOut d) ≡ false
plain_first (ANumber z) e = absurd (both_ways false refl e)
plain_first (AVariable i path s) e = refl
plain_first (AText bytes) e = refl
plain_first (ABlock k sub) e = refl
plain_first AType e = refl
plain_first Missing e = refl

-- a number has a value, and takes that of an slong
number_value : (s : Shape) → is_number s ≡ true → (is_value s ≡ true) × (convertible s (Number Slong) ≡ true)
number_value (Number k) e = (refl, refl)
number_value Void e = absurd (both_ways false refl e)
number_value (Array n s) e = absurd (both_ways false refl e)
number_value (Cluster ss) e = absurd (both_ways false refl e)
number_value Mutex e = absurd (both_ways false refl e)

module _ (p : Text) (few : sum_by size (all_shapes p) ≤ 49151) (at : List ℕ) (here : ℕ) (cmp : Cmp) where
  abbrev ss : Members
  ss = members (all_shapes p)

  abbrev word : NbcArg → ℕ
  word a = arg_word p at here a

  -- what the word names
  abbrev entry_sort : NbcArg → Sort
  entry_sort a = sort_of_name (named ss (word a))

  -- a set of a number that fits a word, and one of a constant
  set_word : (a : NbcArg) (v k : ℕ) → is_number (shape_of (entry_sort a)) ≡ true → k < 2
      → operand_fits (length p.blocks) ops.Set (image.sorts_of ss (statement ops.Set cmp (word a ∷ v ∷ []))) k ≡ true
  set_word a v zero e lt = ap (λ b. (b && true) && true) e
  set_word a v (suc zero) e lt = refl
  set_word a v (suc (suc k)) e lt = absurd (omega (arith, lt))

  set_constant : (a b : NbcArg) (k : ℕ) → is_number (shape_of (entry_sort a)) ≡ true → entry_sort b ≡ Part (Number Slong) → k < 2
      → operand_fits (length p.blocks) ops.Mov (image.sorts_of ss (statement ops.Mov cmp (word a ∷ word b ∷ []))) k ≡ true
  set_constant a b zero e f lt = ap (λ c. (c && true) && true) (number_value (shape_of (entry_sort a)) e).0
  set_constant a b (suc zero) e f lt =
      ap (λ o. (is_value (shape_of o) && convertible (shape_of (entry_sort a)) (shape_of o)) && true) f
      ∙ ap (λ c. c && true) (number_value (shape_of (entry_sort a)) e).1
  set_constant a b (suc (suc k)) e f lt = absurd (omega (arith, lt))

  -- one of any number
  set_number : (a : NbcArg) (z : ℤ) (k : ℕ) → is_constant a ≡ false → is_number (shape_of (entry_sort a)) ≡ true → IsListed p (number_arg Immediate z) → k < 2
      → operand_fits (length p.blocks) (code_op ops.Set (a ∷ number_arg Immediate z ∷ []))
      (image.sorts_of ss (statement (code_op ops.Set (a ∷ number_arg Immediate z ∷ [])) cmp (word a ∷ word (number_arg Immediate z) ∷ []))) k
      ≡ true
  set_number a z k plain e listed lt = by (is_word z) listed
    where
      by : (c : Bool) → IsListed p (if c then args.Imm (nat_abs z) else args.Number (cut Slong z))
          → operand_fits (length p.blocks) (code_op ops.Set (a ∷ (if c then args.Imm (nat_abs z) else args.Number (cut Slong z)) ∷ []))
          (image.sorts_of ss
          (statement (code_op ops.Set (a ∷ (if c then args.Imm (nat_abs z) else args.Number (cut Slong z)) ∷ [])) cmp
          (word a ∷ word (if c then args.Imm (nat_abs z) else args.Number (cut Slong z)) ∷ [])))
          k
          ≡ true
      by true l =
          subst
          (λ t. operand_fits (length p.blocks) (if t || (false || false) then ops.Mov else ops.Set)
          (image.sorts_of ss (statement (if t || (false || false) then ops.Mov else ops.Set) cmp (word a ∷ nat_abs z ∷ []))) k
          ≡ true)
          (sym plain) (set_word a (nat_abs z) k e lt)
      by false l =
          let b : NbcArg = args.Number (cut Slong z) in
          subst
          (λ t. operand_fits (length p.blocks) (if t || (true || false) then ops.Mov else ops.Set)
          (image.sorts_of ss (statement (if t || (true || false) then ops.Mov else ops.Set) cmp (word a ∷ word b ∷ []))) k
          ≡ true)
          (sym plain) (set_constant a b k e (number_entry p few at here (cut Slong z) l).0 lt)

module _ (src : Source) (few : sum_by size (all_shapes (program_of src)) ≤ 49151) (parts : (line : ℕ) (t : Term) → HasPart src (denoted src line t))
    (names : (line : ℕ) (t : Term) → NamesBlock src t (denoted src line t)) where
  set_by : (at : List ℕ) (here : ℕ) (cmp : Cmp) (d e : Denoted) (k : ℕ) → HasPart src d → is_of_class 1 NumberOut (sort_of_denoted NumberOut true d) ≡ true
      → IsListed (program_of src) (denoted_arg NumberOut d) → rules.is_number e ≡ true → IsListed (program_of src) (denoted_arg Immediate e) → k < 2
      → operand_fits (length (program_of src).blocks) (code_op ops.Set (denoted_arg NumberOut d ∷ denoted_arg Immediate e ∷ []))
      (image.sorts_of (members (all_shapes (program_of src)))
      (statement (code_op ops.Set (denoted_arg NumberOut d ∷ denoted_arg Immediate e ∷ [])) cmp
      (arg_word (program_of src) at here (denoted_arg NumberOut d) ∷ arg_word (program_of src) at here (denoted_arg Immediate e) ∷ [])))
      k
      ≡ true
  set_by at here cmp d (ANumber z) k part kind listed number more lt =
      let same = (part_same src few at here NumberOut true d refl part kind listed).0 in
      set_number (program_of src) few at here cmp (denoted_arg NumberOut d) z k (plain_first d kind) (ap (λ o. is_number (shape_of o)) (sym same) ∙ kind) more lt
  set_by at here cmp d (AVariable i path s) k part kind listed number more lt = absurd (both_ways false refl number)
  set_by at here cmp d (AText bytes) k part kind listed number more lt = absurd (both_ways false refl number)
  set_by at here cmp d (ABlock j sub) k part kind listed number more lt = absurd (both_ways false refl number)
  set_by at here cmp d AType k part kind listed number more lt = absurd (both_ways false refl number)
  set_by at here cmp d Missing k part kind listed number more lt = absurd (both_ways false refl number)

  -- a set
  pub set_fit : (ls : List LabelAt) (line : ℕ) (cmp : Cmp) (ts : List Term) → IsFine src ls line ops.Set ts
      → HasFit (program_of src) (text.statement line ops.Set cmp (args_of src ls line ops.Set ts))
  set_fit ls line cmp [] h at here k lt = absurd (both_ways false refl h.taken)
  set_fit ls line cmp (t ∷ []) h at here k lt = absurd (both_ways false refl h.taken)
  set_fit ls line cmp (t ∷ u ∷ []) h at here k lt =
      let first : 0 < 2 = omega arith in
      let second : 1 < 2 = omega arith in
      set_by at here cmp (denoted src line t) (denoted src line u) k (parts line t) (right_class src few parts names ls line ops.Set (t ∷ u ∷ []) h 0 first) h.listed.0
      (right_term src few parts names ls line ops.Set (t ∷ u ∷ []) h 1 second).0 h.listed.1.0 lt
  set_fit ls line cmp (t ∷ u ∷ v ∷ ts) h at here k lt = absurd (let two = eqb-true (length (t ∷ u ∷ v ∷ ts)) 2 h.taken in omega (arith, two))

-- ---- lines of their own

module _ (p : Text) (few : sum_by size (all_shapes p) ≤ 49151) where
  -- the end of a thread, and of a subroutine
  pub ending_fit : (line n : ℕ) → HasFit p (ending line n)
  ending_fit line n at here zero lt = refl
  ending_fit line n at here (suc zero) lt = refl
  ending_fit line n at here (suc (suc k)) lt = absurd (omega (arith, lt))

  pub returning_fit : (line b : ℕ) → subroutine_number p b < length (returns p) → HasFit p (returning line b)
  returning_fit line b below at here zero lt = ap (λ o. (is_number (shape_of o) && true) && true) (return_entry p few at here b below).0
  returning_fit line b below at here (suc k) lt = absurd (omega (arith, lt))

  -- a call of a subroutine, and an exit to a thread
  pub call_fit : (line b : ℕ) → b < length p.blocks → subroutine_number p b < length (returns p) → HasFit p (text.statement line ops.Subcall Lt (args.Block b ∷ args.Back b ∷ []))
  call_fit line b there below at here zero lt = ap (λ c. (c && true) && true) (lt-ltb b (length p.blocks) there)
  call_fit line b there below at here (suc zero) lt = ap (λ o. (is_number (shape_of o) && true) && true) (return_entry p few at here b below).0
  call_fit line b there below at here (suc (suc k)) lt = absurd (omega (arith, lt))

  pub exit_fit : (line b : ℕ) → b < length p.blocks → HasFit p (text.statement line ops.Finclumpimmed Lt (args.Block b ∷ []))
  exit_fit line b there at here zero lt = ap (λ c. (c && true) && true) (lt-ltb b (length p.blocks) there)
  exit_fit line b there at here (suc k) lt = absurd (omega (arith, lt))
