-- A text of small statements keeps the rules of texts, and spells its program.
use Rattle.std.proofs.Common.{◌≡◌, ℕ, not, List, length, None, Ok, sym, ap, ap₂, ◌∙◌, subst}
use Rattle.std.specs.Prelude.{nat_lt}
use Rattle.std.specs.List.{list_any}
use Rattle.nxt_model.specs.Nbc.Tokens.{Token, lines_of, tokens_of}
use Rattle.nxt_model.specs.Nbc.Forms.{Form, Formed, formed}
use Rattle.nxt_model.specs.Nbc.NbcRules.{OutOfRange, Syntax, UnknownName, is_out_of_range, tells, uses_unknown, uses_unknown_type}
use Rattle.nxt_model.specs.Nbc.Text.{Source, is_main, program_of, source_of}
use Rattle.nxt_nbc_lines.specs.Firsts.{Ascends, HasForms, IsLeast, Keeps, first_in_blocks, first_line, lesser}
use Rattle.nxt_nbc_lines.specs.Held.{held_formed}
use Rattle.nxt_nbc_lines.proofs.Laws.Ascending.{has_ascending}
use Rattle.nxt_nbc_lines.proofs.Laws.FirstRules.{least_range, least_syntax, least_unknown}
use Rattle.nxt_nbc_lines.proofs.Laws.Refused.{accepted, counts_kept, kind_kept, main_kept, range_kept, syntax_kept, twice_kept, unknown_kept}
use Rattle.nxt_nbc_kinds.proofs.Laws.FirstWrong.{least_line}
use Rattle.nxt_nbc.specs.Checked.{Spells}
use Rattle.nxt_gen_laws.specs.Head.{head_forms, head_lines, source_with}
use Rattle.nxt_gen_laws.specs.Rows.{AreSmallRows, Row, row_forms, row_lines}
use Rattle.nxt_gen_laws.specs.Spelled.{spelled}
use Rattle.nxt_gen_laws.proofs.Declared.Forms.{text_formed}
use Rattle.nxt_gen_laws.proofs.Declared.Programs.{program_is}
use Rattle.nxt_gen_laws.proofs.Declared.Sources.{source_is}
use Rattle.nxt_gen_laws.proofs.Keeping.Firsts.{no_bad_form, no_unknown_name, no_unknown_type, no_wrong_kind, no_wrong_range}
use Rattle.nxt_gen_laws.proofs.Keeping.HeldSame.{text_same}
use Rattle.nxt_gen_laws.proofs.Keeping.Spaces.{few_names, none_twice}

module _ (text : List ℕ) (rs : List Row) (small : AreSmallRows rs) (ts : List Token) (read : tokens_of text ≡ Ok ts) (lines : lines_of text ts ≡ head_lines (row_lines 14 rs)) where
  abbrev fs : List (ℕ × Form)
  fs = head_forms (row_forms 14 rs)

  abbrev fd : Formed
  fd = record { forms = fs; bad = None }

  abbrev src : Source
  src = source_with (row_forms 14 rs)

  formed_is : formed (lines_of text ts) ≡ fd
  formed_is = ap formed lines ∙ text_formed rs

  has : HasForms text ts fd
  has = (read, sym (ap held_formed formed_is ∙ text_same rs small))

  up : Ascends 0 fs
  up = has_ascending text ts fd has

  syntax : Keeps fd 41
  syntax = syntax_kept fd (subst (IsLeast (λ l. tells fd (Syntax l))) (no_bad_form rs small fd) (least_syntax fd 0 up))

  no_unknown : lesser (first_line (uses_unknown_type (source_of fs)) fs) (first_in_blocks (λ line ls. uses_unknown (source_of fs) ls line) (source_of fs).blocks) ≡ None
  no_unknown =
      ap (λ (s : Source). lesser (first_line (uses_unknown_type s) fs) (first_in_blocks (λ line ls. uses_unknown s ls line) s.blocks)) (source_is rs)
      ∙ ap₂ lesser (no_unknown_type rs small) (no_unknown_name rs small)

  unknown : Keeps fd 42
  unknown = unknown_kept fd syntax (subst (IsLeast (λ l. tells fd (UnknownName l))) no_unknown (least_unknown fd 0 up))

  twice : Keeps fd 43
  twice = twice_kept fd unknown (none_twice rs)

  kind : Keeps fd 44
  kind = kind_kept fd twice (least_line fd src None up (sym (source_is rs)) (no_wrong_kind rs small))

  no_range : first_line (is_out_of_range (source_of fs)) fs ≡ None
  no_range = ap (λ s. first_line (is_out_of_range s) fs) (source_is rs) ∙ no_wrong_range rs small

  range : Keeps fd 45
  range = range_kept fd kind (subst (IsLeast (λ l. tells fd (OutOfRange l))) no_range (least_range fd 0 up))

  main : Keeps fd 46
  main = main_kept fd range (ap (λ (s : Source). not (list_any is_main s.blocks)) (source_is rs))

  counts : Keeps fd 47
  counts = counts_kept fd main (ap (λ (s : Source). nat_lt 255 (length s.blocks)) (source_is rs)) (few_names rs)

  pub spells : Spells text (spelled rs)
  spells = record {
    accepted = (accepted text ts fd has counts).0;
    tokens = (ts, read, sym (ap (λ (f : Formed). program_of (source_of f.forms)) formed_is ∙ ap program_of (source_is rs) ∙ program_is rs small));
  }
