-- No form of a generated text is the first that breaks a rule.
use Rattle.std.proofs.Common.{◌≡◌, ℕ, suc, ◌<◌, Bool, false, List, [], ◌∷◌, Option, Some, None, refl, ap, ◌∙◌, arith}
use Rattle.std.specs.Prelude.{if◌then◌else◌}
use Rattle.nxt_model.specs.Nbc.Forms.{CloseBlock, Form, Formed}
use Rattle.nxt_model.specs.Nbc.NbcRules.{is_out_of_range, uses_unknown, uses_unknown_type}
use Rattle.nxt_model.specs.Nbc.Text.{LabelAt, Source, labels_from}
use Rattle.nxt_nbc_lines.specs.Firsts.{first_in_blocks, first_line, first_pair, lesser, pair_or}
use Rattle.nxt_nbc_lines.proofs.Laws.FirstRules.{is_bad_form}
use Rattle.nxt_nbc_kinds.proofs.Laws.FirstWrong.{first_wrong}
use Rattle.nxt_gen_laws.specs.Head.{head_forms, source_with}
use Rattle.nxt_gen_laws.specs.Rows.{AreSmallRows, IsSmallRow, Row, row_form, row_forms}
use Rattle.nxt_gen_laws.proofs.Declared.Names.{known}
use Rattle.nxt_gen_laws.proofs.Keeping.Operands.{none_out, none_unknown, none_wrong}

-- ---- statements and the end of their thread

none_in_rows : (test : ℕ → Form → Bool) → ((line : ℕ) → 1 < line → (r : Row) → IsSmallRow r → test line (row_form r) ≡ false)
    → ((line : ℕ) → test line CloseBlock ≡ false) → (line : ℕ) → 1 < line → (rs : List Row) → AreSmallRows rs → first_line test (row_forms line rs) ≡ None
none_in_rows test each last line behind [] small = ap (λ b. if b then Some line else None) (last line)
none_in_rows test each last line behind (r ∷ rs) small =
    ap (λ b. if b then Some line else first_line test (row_forms (suc line) rs)) (each line behind r small.0)
    ∙ none_in_rows test each last (suc line) (omega (arith, behind)) rs small.1

pairless : (first : ℕ → Form → Option ℕ) → ((line : ℕ) → 1 < line → (r : Row) → IsSmallRow r → first line (row_form r) ≡ None)
    → ((line : ℕ) → first line CloseBlock ≡ None) → (line : ℕ) → 1 < line → (rs : List Row) → AreSmallRows rs → first_pair first (row_forms line rs) ≡ None
pairless first each last line behind [] small = ap (λ o. pair_or line o None) (last line)
pairless first each last line behind (r ∷ rs) small =
    ap (λ o. pair_or line o (first_pair first (row_forms (suc line) rs))) (each line behind r small.0)
    ∙ pairless first each last (suc line) (omega (arith, behind)) rs small.1

-- ---- the lines in front of them

module _ (fs : List (ℕ × Form)) where
  bad_behind : (fd : Formed) → first_line (is_bad_form fd) (head_forms fs) ≡ first_line (is_bad_form fd) fs
  bad_behind fd = refl

  types_behind : (src : Source) → first_line (uses_unknown_type src) (head_forms fs) ≡ first_line (uses_unknown_type src) fs
  types_behind src = refl

  wrong_behind : (src : Source) → first_pair (first_wrong src) (head_forms fs) ≡ first_pair (first_wrong src) fs
  wrong_behind src = refl

  range_behind : (src : Source) → first_line (is_out_of_range src) (head_forms fs) ≡ first_line (is_out_of_range src) fs
  range_behind src = refl

-- ---- the rules

module _ (rs : List Row) (small : AreSmallRows rs) where
  abbrev items : List (ℕ × Form)
  items = row_forms 14 rs

  abbrev src : Source
  src = source_with items

  no_test : (test : ℕ → Form → Bool) → ((line : ℕ) → 1 < line → (r : Row) → IsSmallRow r → test line (row_form r) ≡ false)
      → ((line : ℕ) → test line CloseBlock ≡ false) → first_line test items ≡ None
  no_test test each last = none_in_rows test each last 14 (omega arith) rs small

  pub no_bad_form : (fd : Formed) → first_line (is_bad_form fd) (head_forms items) ≡ None
  no_bad_form fd = bad_behind items fd ∙ no_test (is_bad_form fd) (λ line behind r is. refl) (λ line. refl)

  pub no_unknown_type : first_line (uses_unknown_type src) (head_forms items) ≡ None
  no_unknown_type = types_behind items src ∙ no_test (uses_unknown_type src) (λ line behind r is. refl) (λ line. refl)

  pub no_unknown_name : first_in_blocks (λ line ls. uses_unknown src ls line) src.blocks ≡ None
  no_unknown_name =
      let ls : List LabelAt = labels_from 0 items in
      ap (λ o. lesser o None)
      (no_test (λ line f. uses_unknown src ls line f) (λ line behind r is. none_unknown src line (known items line behind) r is ls) (λ line. refl))

  pub no_wrong_kind : first_pair (first_wrong src) (head_forms items) ≡ None
  no_wrong_kind =
      wrong_behind items src
      ∙ pairless (first_wrong src) (λ line behind r is. none_wrong src line (known items line behind) r is) (λ line. refl) 14 (omega arith) rs small

  pub no_wrong_range : first_line (is_out_of_range src) (head_forms items) ≡ None
  no_wrong_range =
      range_behind items src
      ∙ no_test (is_out_of_range src) (λ line behind r is. none_out src line (known items line behind) r is) (λ line. refl)
