-- What the rules ask of a statement's operands: each is declared, of its kind and in its range.
use Rattle.std.proofs.Common.{◌≡◌, ℕ, zero, suc, ◌+◌, ◌<◌, Bool, true, false, not, ◌&&◌, ◌||◌, List, [], ◌∷◌, length, map, zip, slice_index_or, Option, Some, None, refl, ap, ap₂, ◌∙◌, arith}
use Rattle.std.specs.Prelude.{if◌then◌else◌, nat_lt, pos}
use Rattle.std.specs.List.{enumerate_from, list_any}
use Rattle.std.proofs.lemmas.Bool.Decides.{nat_tests}
use Rattle.nxt_types.specs.OperandRules.{Sort, has_kind, is_allowed, is_destination}
use Rattle.nxt_types.specs.Opcodes.{classes}
use Rattle.nxt_types.specs.declared.instr.Op.{Op}
use Rattle.nxt_types.specs.declared.opcodes.Class.{Class}
use Rattle.nxt_types.specs.declared.opcodes.Class.TheVariants.{Immediate}
use Rattle.nxt_model.specs.Nbc.NbcRules.{class_at, is_missing, is_number, is_out_of_range, is_wide, sort_of_denoted, uses_unknown}
use Rattle.nxt_model.specs.Nbc.Text.{ANumber, Denoted, LabelAt, Missing, Source, denoted}
use Rattle.nxt_nbc_kinds.proofs.Laws.FirstWrong.{first_wrong}
use Rattle.nxt_gen_laws.specs.Rows.{Built, Counted, Cut, Driven, Filled, Flags, IsSmall, IsSmallRow, Moved, Numeral, Operand, Port, Power, Row, Speed, TheList, TheSize, meaning, operand_term, operands, row_form, row_op}
use Rattle.nxt_gen_laws.proofs.Declared.Names.{all_known}

-- ---- by what operands stand for

abbrev sorts_by : Op → ℕ → List (Class × Denoted) → List Sort
sorts_by op k [] = []
sorts_by op k ((c, d) ∷ more) = sort_of_denoted c (is_destination op k) d ∷ sorts_by op (k + 1) more

abbrev all_sorts : Op → List Denoted → List Sort
all_sorts op ds = sorts_by op 0 (zip (classes op (length ds)) ds)

abbrev has_class_by : Class → Denoted → Bool
has_class_by Immediate d = is_number d
has_class_by c d = true

-- operand k, counted from 0, is of a wrong kind
abbrev wrong_by : Op → List Denoted → ℕ → Bool
wrong_by op ds k = not (has_class_by (class_at op (length ds) k) (slice_index_or ds k Missing) && has_kind 1 op (all_sorts op ds) k)

-- the first of so many from k on, counted from 1
abbrev first_by : (ℕ → Bool) → ℕ → ℕ → Option ℕ
first_by test k zero = None
first_by test k (suc n) = if test k then Some (k + 1) else first_by test (k + 1) n

abbrev refused_by : Op → List Denoted → ℕ × Denoted → Bool
refused_by op ds (k, d) = is_wide d || not (is_allowed op (all_sorts op ds) k)

abbrev range_by : Op → List Denoted → Bool
range_by op ds = list_any (refused_by op ds) (enumerate_from 0 ds)

-- ---- the same of a statement

module _ (src : Source) (line : ℕ) where
  abbrev denoted_by : Row → List Denoted
  denoted_by r = map (λ o. denoted src line (operand_term o)) (operands r)

  unknown_is : (ls : List LabelAt) (r : Row) → uses_unknown src ls line (row_form r) ≡ list_any is_missing (denoted_by r)
  unknown_is ls (Filled of byte number) = refl
  unknown_is ls (Cut of from number) = refl
  unknown_is ls (Built of from byte) = refl
  unknown_is ls (Moved of from) = refl
  unknown_is ls (Counted of) = refl
  unknown_is ls Driven = refl

  wrong_is : (r : Row) → first_wrong src line (row_form r) ≡ first_by (wrong_by (row_op r) (denoted_by r)) 0 (length (operands r))
  wrong_is (Filled of byte number) = refl
  wrong_is (Cut of from number) = refl
  wrong_is (Built of from byte) = refl
  wrong_is (Moved of from) = refl
  wrong_is (Counted of) = refl
  wrong_is Driven = refl

  range_is : (r : Row) → is_out_of_range src line (row_form r) ≡ range_by (row_op r) (denoted_by r)
  range_is (Filled of byte number) = refl
  range_is (Cut of from number) = refl
  range_is (Built of from byte) = refl
  range_is (Moved of from) = refl
  range_is (Counted of) = refl
  range_is Driven = refl

-- ---- what small operands mean

no_missing : (os : List Operand) → list_any is_missing (map meaning os) ≡ false
no_missing [] = refl
no_missing (TheList i ∷ os) = no_missing os
no_missing (Numeral v ∷ os) = no_missing os
no_missing (TheSize ∷ os) = no_missing os
no_missing (Port ∷ os) = no_missing os
no_missing (Power ∷ os) = no_missing os
no_missing (Flags ∷ os) = no_missing os
no_missing (Speed ∷ os) = no_missing os

no_wrong : (r : Row) → first_by (wrong_by (row_op r) (map meaning (operands r))) 0 (length (operands r)) ≡ None
no_wrong (Filled of byte number) = refl
no_wrong (Cut of from number) = refl
no_wrong (Built of from byte) = refl
no_wrong (Moved of from) = refl
no_wrong (Counted of) = refl
no_wrong Driven = refl

not_wide : (v : ℕ) → v < 2048 → is_wide (ANumber (pos v)) ≡ false
not_wide v small = let below : nat_lt 4294967295 v ≡ false = grind (arith, nat_tests) in below

no_range : (r : Row) → IsSmallRow r → range_by (row_op r) (map meaning (operands r)) ≡ false
no_range (Filled of byte number) small = ap₂ (λ a b. (a || false) || ((b || false) || false)) (not_wide byte small.1.0) (not_wide number small.1.1.0)
no_range (Cut of from number) small = ap (λ a. (a || false) || false) (not_wide number small.1.1.1.0)
no_range (Built of from byte) small = ap (λ a. (a || false) || false) (not_wide byte small.1.1.0)
no_range (Moved of from) small = refl
no_range (Counted of) small = refl
no_range Driven small = refl

-- ---- statements

module _ (src : Source) (line : ℕ) (each : (o : Operand) → IsSmall o → denoted src line (operand_term o) ≡ meaning o) (r : Row) (small : IsSmallRow r) where
  same : denoted_by src line r ≡ map meaning (operands r)
  same = all_known src line each (operands r) small

  -- each name is declared
  pub none_unknown : (ls : List LabelAt) → uses_unknown src ls line (row_form r) ≡ false
  none_unknown ls = unknown_is src line ls r ∙ ap (list_any is_missing) same ∙ no_missing (operands r)

  -- no operand is of a wrong kind
  pub none_wrong : first_wrong src line (row_form r) ≡ None
  none_wrong = wrong_is src line r ∙ ap (λ ds. first_by (wrong_by (row_op r) ds) 0 (length (operands r))) same ∙ no_wrong r

  -- all numbers are in range
  pub none_out : is_out_of_range src line (row_form r) ≡ false
  none_out = range_is src line r ∙ ap (range_by (row_op r)) same ∙ no_range r small
