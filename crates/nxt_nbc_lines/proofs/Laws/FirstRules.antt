-- The least lines at which rules are broken, by the first forms that break them.
use Rattle.std.proofs.Common.{ℕ, Bool, ◌||◌, Option}
use Rattle.std.specs.List.{list_any}
use Rattle.nxt_model.specs.Nbc.Forms.{Form, Formed}
use Rattle.nxt_model.specs.Nbc.Text.{source_of}
use Rattle.nxt_model.specs.Nbc.NbcRules.{Syntax, UnknownName, WrongKind, OutOfRange, at_line, has_large_type, has_wrong_text, is_at, uses_unknown, uses_unknown_type, in_blocks, is_wrong_kind, is_out_of_range, tells}
use Rattle.nxt_nbc_lines.specs.Firsts.{Ascends, IsLeast, first_line, lesser, IsLeastPair, first_pair, first_in_blocks}
use Rattle.nxt_nbc_lines.proofs.Laws.Ascending.{blocks_ascend}
use Rattle.nxt_nbc_lines.proofs.Laws.FirstLines.{least_first, least_lesser, least_at, least_pair, least_in_blocks}

-- a form's type is too large, or it starts with a text and isn't of bytes
abbrev pub is_bad_form : Formed → ℕ → Form → Bool
is_bad_form fd line f =
    let types = (source_of fd.forms).types in has_large_type types line f || has_wrong_text types line f

-- the rule of syntax
pub least_syntax : (fd : Formed) (n : ℕ) → Ascends n fd.forms → IsLeast (λ l. tells fd (Syntax l)) (lesser fd.bad (first_line (is_bad_form fd) fd.forms))
least_syntax fd n up =
    least_lesser (λ l. is_at l fd.bad) (λ l. list_any (is_bad_form fd l) (at_line l fd.forms)) fd.bad (first_line (is_bad_form fd) fd.forms)
    (least_at fd.bad) (least_first (is_bad_form fd) n fd.forms up)

-- the rule of names that nothing declares
pub least_unknown : (fd : Formed) (n : ℕ) → Ascends n fd.forms
    → IsLeast (λ l. tells fd (UnknownName l))
    (lesser (first_line (uses_unknown_type (source_of fd.forms)) fd.forms) (first_in_blocks (λ line ls. uses_unknown (source_of fd.forms) ls line) (source_of fd.forms).blocks))
least_unknown fd n up =
    let src = source_of fd.forms in
    least_lesser (λ l. list_any (uses_unknown_type src l) (at_line l fd.forms)) (λ l. in_blocks src l (λ ls. uses_unknown src ls l))
    (first_line (uses_unknown_type src) fd.forms) (first_in_blocks (λ line ls. uses_unknown src ls line) src.blocks)
    (least_first (uses_unknown_type src) n fd.forms up) (least_in_blocks (λ line ls. uses_unknown src ls line) src (blocks_ascend n fd.forms up))

-- the rule of kinds, by the first operand of each form that is of a wrong kind
pub least_kind : (fd : Formed) (n : ℕ) → Ascends n fd.forms → (first : ℕ → Form → Option ℕ)
    → ((line : ℕ) (f : Form) → IsLeast (λ k. is_wrong_kind (source_of fd.forms) line k f) (first line f))
    → IsLeastPair (λ l k. tells fd (WrongKind l k)) (first_pair first fd.forms)
least_kind fd n up first each = least_pair (is_wrong_kind (source_of fd.forms)) first each n fd.forms up

-- the rule of ranges
pub least_range : (fd : Formed) (n : ℕ) → Ascends n fd.forms
    → IsLeast (λ l. tells fd (OutOfRange l)) (first_line (is_out_of_range (source_of fd.forms)) fd.forms)
least_range fd n up = least_first (is_out_of_range (source_of fd.forms)) n fd.forms up
