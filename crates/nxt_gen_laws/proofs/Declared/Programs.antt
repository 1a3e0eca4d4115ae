-- The program that a generated text spells.
use Rattle.std.proofs.Common.{◌≡◌, ℕ, suc, ◌<◌, ◌++◌, List, [], ◌∷◌, flat_map, length, map, zip, refl, ap, ap₂, ◌∙◌, arith}
use Rattle.std.specs.Prelude.{codes, false, if◌then◌else◌, None}
use Rattle.std.specs.List.{cons_option}
use Rattle.nxt_types.specs.Opcodes.{classes}
use Rattle.nxt_types.specs.declared.instr.Op.{Op}
use Rattle.nxt_model.specs.Nbc.Forms.{Form}
use Rattle.nxt_model.specs.Nbc.Text.{Denoted, LabelAt, Source, args_of, block_named, denoted, denoted_arg, dependents_of, followers_of, holds_number, labels_from, once, program_of, statement, statements_in}
use Rattle.nxt_model.specs.TextProgram.{Text}
use Rattle.nxt_model.specs.declared.nbc.NbcArg.{NbcArg}
use Rattle.nxt_model.specs.declared.nbc.NbcStatement.{NbcStatement}
use Rattle.nxt_types.specs.declared.kind.Cmp.TheVariants.{Lt}
use Rattle.nxt_gen_laws.specs.Head.{main_block, source_with}
use Rattle.nxt_gen_laws.specs.Rows.{AreSmallRows, Built, Counted, Cut, Driven, Filled, IsSmallRow, Moved, Row, meaning, operand_term, operands, row_forms, row_op}
use Rattle.nxt_gen_laws.specs.Spelled.{row_args, row_statements, spelled}
use Rattle.nxt_gen_laws.proofs.Declared.Names.{all_known, known}
use Rattle.nxt_gen_laws.proofs.Declared.Sources.{none_followed, none_preceded}

-- ---- statements

-- operands by what they stand for
abbrev args_by : Op → List Denoted → List NbcArg
args_by op ds = map (λ p. denoted_arg p.0 p.1) (zip (classes op (length ds)) ds)

module _ (src : Source) (ls : List LabelAt) (line : ℕ) where
  by_denoted : (r : Row) → args_of src ls line (row_op r) (map operand_term (operands r)) ≡ args_by (row_op r) (map (λ o. denoted src line (operand_term o)) (operands r))
  by_denoted (Filled of byte number) = refl
  by_denoted (Cut of from number) = refl
  by_denoted (Built of from byte) = refl
  by_denoted (Moved of from) = refl
  by_denoted (Counted of) = refl
  by_denoted Driven = refl

by_meaning : (r : Row) → args_by (row_op r) (map meaning (operands r)) ≡ row_args r
by_meaning (Filled of byte number) = refl
by_meaning (Cut of from number) = refl
by_meaning (Built of from byte) = refl
by_meaning (Moved of from) = refl
by_meaning (Counted of) = refl
by_meaning Driven = refl

module _ (items : List (ℕ × Form)) (ls : List LabelAt) where
  abbrev src : Source
  src = source_with items

  args_are : (line : ℕ) → 1 < line → (r : Row) → IsSmallRow r → args_of src ls line (row_op r) (map operand_term (operands r)) ≡ row_args r
  args_are line behind r small =
      by_denoted src ls line r
      ∙ ap (args_by (row_op r)) (all_known src line (known items line behind) (operands r) small)
      ∙ by_meaning r

  body_is : (line : ℕ) → 1 < line → (rs : List Row) → AreSmallRows rs → flat_map (statements_in src ls 0 false 0) (row_forms line rs) ≡ row_statements line rs
  body_is line behind [] small = refl
  body_is line behind (r ∷ rs) small =
      ap₂ (λ (xs : List NbcArg) (ss : List NbcStatement). statement line (row_op r) Lt xs ∷ ss) (args_are line behind r small.0)
      (body_is (suc line) (omega (arith, behind)) rs small.1)

-- ---- the whole

module _ (rs : List Row) where
  abbrev items : List (ℕ × Form)
  items = row_forms 14 rs

  abbrev own : Source
  own = source_with items

  no_dependents : dependents_of own 0 (main_block items) ≡ []
  no_dependents =
      ap (λ ps. once [] (ps ++ followers_of own 0)) (none_preceded own 14 rs)
      ∙ ap (λ fs. once [] (cons_option (if holds_number fs 0 then block_named own (codes "main") else None) [])) (none_followed own 14 rs)

  abbrev with_parts : List ℕ → List NbcStatement → Text
  with_parts ds body = record (spelled rs) { blocks = record { subroutine = false; fire = 0; dependents = ds; body = body } ∷ [] }

  abbrev statements : List ℕ → List NbcStatement
  statements ds = flat_map (statements_in own (labels_from 0 items) 0 false (length ds)) items

  by_parts : program_of own ≡ with_parts (dependents_of own 0 (main_block items)) (statements (dependents_of own 0 (main_block items)))
  by_parts = refl

  -- the program of the text's declarations
  pub program_is : AreSmallRows rs → program_of own ≡ spelled rs
  program_is small =
      by_parts
      ∙ ap (λ ds. with_parts ds (statements ds)) no_dependents
      ∙ ap (with_parts []) (body_is items (labels_from 0 items) 14 (omega arith) rs small)
