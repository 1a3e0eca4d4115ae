-- Operands by the classes of their positions.
use Rattle.std.proofs.Common.{◌≡◌, ℕ, suc, ◌+◌, ◌<◌, true, false, ◌&&◌, cond, List, [], ◌∷◌, ◌++◌, length, map, take, get_or, refl, sym, ap, ◌∙◌, arith}
use Rattle.std.specs.Prelude.{zip}
use Rattle.std.proofs.lemmas.List.{map-append, length-map, length-take-le, take_more}
use Rattle.nxt_types.specs.Opcodes.{arity, takes, classes, class_in, row}
use Rattle.nxt_types.specs.declared.instr.Op.{Op}
use Rattle.nxt_types.specs.declared.opcodes.Class.{Class}
use Rattle.nxt_types.specs.declared.opcodes.Class.TheVariants.{NumberOut, NumberIn, List as AList, Text, Anything, Mutex as AMutex, Immediate, Clump, Offset, OptionalOut, OptionalIn}
use Rattle.nxt_model.specs.Nbc.Forms.{Term}
use Rattle.nxt_model.specs.Nbc.Text.{Source, LabelAt, arg_of, args_of, denoted, denoted_arg, is_left_out}
use Rattle.nxt_model.specs.declared.nbc.NbcArg.{NbcArg}
use Rattle.nxt_model.specs.declared.nbc.NbcArg.TheVariants as args
use Rattle.nxt_nbc_program.specs.Classes.{is_optional}
use Rattle.nxt_nbc_lines.specs.Seen.{term_seen, terms_seen}
use Rattle.nxt_nbc_lines.specs.declared.terms.Term.{Term as ProgramTerm}
use Rattle.nxt_nbc_lines.proofs.Laws.Classes.{count_classes, class_there}

-- operands from position k on
abbrev pub args_by : Source → List LabelAt → ℕ → Op → ℕ → List Term → List NbcArg
args_by src ls line op k [] = []
args_by src ls line op k (t ∷ ts) = arg_of src ls line (class_in (row op).operands k) t ∷ args_by src ls line op (k + 1) ts

module _ (src : Source) (ls : List LabelAt) (line : ℕ) (op : Op) where
  by_append : (k : ℕ) (ts : List Term) (t : Term) → args_by src ls line op k (ts ++ t ∷ []) ≡ args_by src ls line op k ts ++ arg_of src ls line (class_in (row op).operands (k + length ts)) t ∷ []
  by_append k [] t = ap (λ j. arg_of src ls line (class_in (row op).operands j) t ∷ []) (let e : k ≡ k + 0 = omega arith in e)
  by_append k (u ∷ ts) t =
      ap (λ xs. arg_of src ls line (class_in (row op).operands k) u ∷ xs)
      (by_append (k + 1) ts t
      ∙ ap (λ j. args_by src ls line op (k + 1) ts ++ arg_of src ls line (class_in (row op).operands j) t ∷ []) (let e : k + 1 + length ts ≡ k + suc (length ts) = omega arith in e))

  -- one operand more
  pub args_more : (ts : List ProgramTerm) (i : ℕ) (t : ProgramTerm) → i < length ts → t ≡ get_or ts i t
      → args_by src ls line op 0 (terms_seen (take i ts)) ++ arg_of src ls line (class_in (row op).operands i) (term_seen t) ∷ []
      ≡ args_by src ls line op 0 (terms_seen (take (i + 1) ts))
  args_more ts i t within at =
      let front : List Term = terms_seen (take i ts) in
      let long = length-map (take i ts) term_seen ∙ length-take-le i ts (omega (arith, within)) in
      let many : 0 + length front ≡ i = omega (arith, long) in
      sym (ap (λ xs. args_by src ls line op 0 (terms_seen xs)) (take_more ts i t within ∙ ap (λ x. take i ts ++ x ∷ []) (sym at))
      ∙ ap (args_by src ls line op 0) (map-append term_seen (take i ts) (t ∷ []))
      ∙ by_append 0 front (term_seen t)
      ∙ ap (λ j. args_by src ls line op 0 front ++ arg_of src ls line (class_in (row op).operands j) (term_seen t) ∷ []) many)

  zipped : (k : ℕ) (cs : List Class) (ts : List Term) → length cs ≡ length ts → ((j : ℕ) → j < length ts → get_or cs j Immediate ≡ class_in (row op).operands (k + j))
      → map (λ p. arg_of src ls line p.0 p.1) (zip cs ts) ≡ args_by src ls line op k ts
  zipped k [] [] e h = refl
  zipped k [] (t ∷ ts) e h = absurd (omega (arith, e))
  zipped k (c ∷ cs) [] e h = absurd (omega (arith, e))
  zipped k (c ∷ cs) (t ∷ ts) e h =
      ap (λ d. arg_of src ls line d t ∷ map (λ p. arg_of src ls line p.0 p.1) (zip cs ts))
      (h 0 (omega arith) ∙ ap (class_in (row op).operands) (let z : k + 0 ≡ k = omega arith in z))
      ∙ ap (λ xs. arg_of src ls line (class_in (row op).operands k) t ∷ xs)
      (zipped (k + 1) cs ts (omega (arith, e))
      (λ j l. h (suc j) (omega (arith, l)) ∙ ap (class_in (row op).operands) (let z : k + suc j ≡ k + 1 + j = omega arith in z)))

  -- all of them
  pub args_all : (ts : List Term) → takes (arity op) (length ts) ≡ true → args_by src ls line op 0 ts ≡ args_of src ls line op ts
  args_all ts taken =
      sym (zipped 0 (classes op (length ts)) ts (count_classes op (length ts) taken)
      (λ j l. class_there op (length ts) j taken l ∙ ap (class_in (row op).operands) (let z : j ≡ 0 + j = omega arith in z)))

-- ---- one operand

module _ (src : Source) (ls : List LabelAt) (line : ℕ) (t : Term) where
  -- one that is left out
  pub arg_left : (c : Class) → is_optional c ≡ true → is_left_out src line t ≡ true → args.Left ≡ arg_of src ls line c t
  arg_left OptionalOut e left = sym (ap (λ b. cond b args.Left (denoted_arg OptionalOut (denoted src line t))) left)
  arg_left OptionalIn e left = sym (ap (λ b. cond b args.Left (denoted_arg OptionalIn (denoted src line t))) left)
  arg_left NumberOut e left = absurd cc
  arg_left NumberIn e left = absurd cc
  arg_left AList e left = absurd cc
  arg_left Text e left = absurd cc
  arg_left Anything e left = absurd cc
  arg_left AMutex e left = absurd cc
  arg_left Immediate e left = absurd cc
  arg_left Clump e left = absurd cc
  arg_left Offset e left = absurd cc

  -- and one that is not
  pub arg_denoted : (c : Class) → (c ≡ Offset → ⊥) → (is_optional c && is_left_out src line t) ≡ false → denoted_arg c (denoted src line t) ≡ arg_of src ls line c t
  arg_denoted OptionalOut n e = sym (ap (λ b. cond b args.Left (denoted_arg OptionalOut (denoted src line t))) e)
  arg_denoted OptionalIn n e = sym (ap (λ b. cond b args.Left (denoted_arg OptionalIn (denoted src line t))) e)
  arg_denoted NumberOut n e = refl
  arg_denoted NumberIn n e = refl
  arg_denoted AList n e = refl
  arg_denoted Text n e = refl
  arg_denoted Anything n e = refl
  arg_denoted AMutex n e = refl
  arg_denoted Immediate n e = refl
  arg_denoted Clump n e = refl
  arg_denoted Offset n e = absurd (n refl)
