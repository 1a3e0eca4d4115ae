-- What the operands of a generated text stand for.
use Rattle.std.proofs.Common.{◌≡◌, ℕ, zero, suc, ◌+◌, ◌<◌, true, List, [], ◌∷◌, map, Option, Some, None, refl, ap, ap₂, ◌∙◌, arith}
use Rattle.std.specs.Prelude.{codes, if◌then◌else◌, nat_lt, pos}
use Rattle.std.proofs.lemmas.Bool.Decides.{nat_tests}
use Rattle.std.proofs.lemmas.Fmt.{decimal_digit}
use Rattle.nxt_model.specs.Nbc.Forms.{Form, Named}
use Rattle.nxt_model.specs.Nbc.Header.{constant_named, is_header_struct}
use Rattle.nxt_model.specs.Nbc.Text.{AVariable, ANumber, Denoted, Missing, Source, by_sort, denoted, of_header, sort_named}
use Rattle.nxt_gen_laws.specs.Head.{source_with}
use Rattle.nxt_gen_laws.specs.Rows.{AreSmall, Flags, IsSmall, Numeral, Operand, Port, Power, Speed, TheList, TheSize, byte_list, meaning, operand_term}

module _ (items : List (ℕ × Form)) (line : ℕ) (behind : 1 < line) where
  abbrev src : Source
  src = source_with items

  ahead : nat_lt 1 line ≡ true
  ahead = grind (arith, nat_tests)

  -- ---- lists

  eight_lists : (i : ℕ) → i < 8 → denoted src line (Named ((97 ∷ (48 + i) ∷ []) ∷ [])) ≡ AVariable i [] byte_list
  eight_lists zero small = refl
  eight_lists (suc zero) small = refl
  eight_lists (suc (suc zero)) small = refl
  eight_lists (suc (suc (suc zero))) small = refl
  eight_lists (suc (suc (suc (suc zero)))) small = refl
  eight_lists (suc (suc (suc (suc (suc zero))))) small = refl
  eight_lists (suc (suc (suc (suc (suc (suc zero)))))) small = refl
  eight_lists (suc (suc (suc (suc (suc (suc (suc zero))))))) small = refl
  eight_lists (suc (suc (suc (suc (suc (suc (suc (suc n)))))))) small = absurd (omega (arith, small))

  -- ---- names of the header

  number_known : (name : List ℕ) (n : ℕ) → sort_named src name ≡ None → constant_named name ≡ Some n → denoted src line (Named (name ∷ [])) ≡ ANumber (pos n)
  number_known name n other is =
      ap (λ s. by_sort src line s name []) other
      ∙ ap (λ b. if b then of_header (constant_named name) (is_header_struct name) else Missing) ahead
      ∙ ap (λ c. of_header c (is_header_struct name)) is

  -- ---- operands

  pub known : (o : Operand) → IsSmall o → denoted src line (operand_term o) ≡ meaning o
  known (TheList i) small = ap (λ ds. denoted src line (Named ((97 ∷ ds) ∷ []))) (decimal_digit i (omega (arith, small))) ∙ eight_lists i small
  known (Numeral v) small = refl
  known TheSize small = refl
  known Port small = number_known (codes "OUT_A") 0 refl refl
  known Power small = number_known (codes "Power") 2 refl refl
  known Flags small = number_known (codes "UpdateFlags") 0 refl refl
  known Speed small = number_known (codes "UF_UPDATE_SPEED") 2 refl refl

-- all operands of a statement
pub all_known : (own : Source) (line : ℕ) → ((o : Operand) → IsSmall o → denoted own line (operand_term o) ≡ meaning o)
    → (os : List Operand) → AreSmall os → map (λ o. denoted own line (operand_term o)) os ≡ map meaning os
all_known own line each [] small = refl
all_known own line each (o ∷ os) small = ap₂ (λ (d : Denoted) (ds : List Denoted). d ∷ ds) (each o small.0) (all_known own line each os small.1)
