-- Lines that have no form, and names that nothing declares, are the same where numbers are held.
use Rattle.std.proofs.Common.{◌≡◌, ℕ, Bool, ◌||◌, List, [], ◌∷◌, map, length, zip, refl, ap, ◌∙◌}
use Rattle.std.specs.List.{list_any}
use Rattle.std.proofs.lemmas.List.{length-map}
use Rattle.nxt_types.specs.Opcodes.{classes}
use Rattle.nxt_types.specs.declared.opcodes.Class.{Class}
use Rattle.nxt_types.specs.declared.opcodes.Class.TheVariants.{Offset}
use Rattle.nxt_model.specs.Nbc.Forms.{Form, Declare, Precedes, Follows, ExitTo, Call, Do, Formed, Nothing, One, Many, Bytes, Term, Named}
use Rattle.nxt_model.specs.Nbc.Types.{Struct}
use Rattle.nxt_model.specs.Nbc.Text.{Source, source_of, denoted, LabelAt, labels_from}
use Rattle.nxt_model.specs.Nbc.NbcRules.{at_line, has_large_type, has_wrong_text, is_at, is_bad_line, is_missing, lacks_label, is_unknown, any_missing, uses_unknown, uses_unknown_type, in_blocks}
use Rattle.nxt_nbc_lines.specs.Held.{held_term, held_form, held_formed}
use Rattle.nxt_nbc_lines.proofs.Laws.HeldLists.{any_same, in_second, zip_same}
use Rattle.nxt_nbc_lines.proofs.Laws.HeldSources.{held_forms, held_block, held_source, source_held, line_held}
use Rattle.nxt_nbc_lines.proofs.Laws.HeldNames.{denoted_held, labels_held}

-- a test of the forms at a line
pub any_at_line : (line : ℕ) (fs : List (ℕ × Form)) (test other : Form → Bool) → ((f : Form) → test (held_form f) ≡ other f)
    → list_any test (at_line line (held_forms fs)) ≡ list_any other (at_line line fs)
any_at_line line fs test other same = ap (list_any test) (line_held line fs) ∙ any_same held_form test other same (at_line line fs)

-- ---- lines that have no form

large_held : (types : List Struct) (line : ℕ) (f : Form) → has_large_type types line (held_form f) ≡ has_large_type types line f
large_held types line (Declare n t g) = refl
large_held types line f = refl

wrong_text_held : (types : List Struct) (line : ℕ) (f : Form) → has_wrong_text types line (held_form f) ≡ has_wrong_text types line f
wrong_text_held types line (Declare n t Nothing) = refl
wrong_text_held types line (Declare n t (One z)) = refl
wrong_text_held types line (Declare n t (Many zs)) = refl
wrong_text_held types line (Declare n t (Bytes s)) = refl
wrong_text_held types line f = refl

abbrev is_bad_form : ℕ → Source → Form → Bool
is_bad_form line src f = has_large_type src.types line f || has_wrong_text src.types line f

bad_form_held : (line : ℕ) (src : Source) (f : Form) → is_bad_form line src (held_form f) ≡ is_bad_form line src f
bad_form_held line src f =
    ap (λ c. c || has_wrong_text src.types line (held_form f)) (large_held src.types line f)
    ∙ ap (λ c. has_large_type src.types line f || c) (wrong_text_held src.types line f)

pub bad_line_held : (fd : Formed) (line : ℕ) → is_bad_line (held_formed fd) line ≡ is_bad_line fd line
bad_line_held fd line =
    let src = source_of fd.forms in
    ap (λ s. is_at line fd.bad || list_any (is_bad_form line s) (at_line line (held_forms fd.forms))) (source_held fd.forms)
    ∙ ap (λ c. is_at line fd.bad || c) (any_at_line line fd.forms (is_bad_form line src) (is_bad_form line src) (bad_form_held line src))

-- ---- names that nothing declares

missing_held : (src : Source) (line : ℕ) (t : Term) → is_missing (denoted (held_source src) line (held_term t)) ≡ is_missing (denoted src line t)
missing_held src line t = denoted_held is_missing (λ z. refl) src line t

lacks_held : (src : Source) (ls : List LabelAt) (line : ℕ) (t : Term) → lacks_label (held_source src) ls line (held_term t) ≡ lacks_label src ls line t
lacks_held src ls line (Named (l ∷ [])) = refl
lacks_held src ls line t = missing_held src line t

unknown_held : (src : Source) (ls : List LabelAt) (line : ℕ) (c : Class) (t : Term) → is_unknown (held_source src) ls line c (held_term t) ≡ is_unknown src ls line c t
unknown_held src ls line Offset t = lacks_held src ls line t
unknown_held src ls line c t = missing_held src line t

any_missing_held : (src : Source) (line : ℕ) (ts : List Term) → any_missing (held_source src) line (map held_term ts) ≡ any_missing src line ts
any_missing_held src line ts =
    any_same held_term (λ t. is_missing (denoted (held_source src) line t)) (λ t. is_missing (denoted src line t)) (missing_held src line) ts

uses_unknown_held : (src : Source) (line : ℕ) (ls : List LabelAt) (f : Form) → uses_unknown (held_source src) ls line (held_form f) ≡ uses_unknown src ls line f
uses_unknown_held src line ls (Do label op cmp ts) =
    let test : Class × Term → Bool = λ p. is_unknown (held_source src) ls line p.0 p.1 in
    let other : Class × Term → Bool = λ p. is_unknown src ls line p.0 p.1 in
    ap (λ n. list_any test (zip (classes op n) (map held_term ts))) (length-map ts held_term)
    ∙ ap (list_any test) (zip_same held_term (classes op (length ts)) ts)
    ∙ any_same (in_second held_term) test other (λ p. unknown_held src ls line p.0 p.1) (zip (classes op (length ts)) ts)
uses_unknown_held src line ls (Call t) = any_missing_held src line (t ∷ [])
uses_unknown_held src line ls (ExitTo t) = any_missing_held src line (t ∷ [])
uses_unknown_held src line ls (Precedes ts) = any_missing_held src line ts
uses_unknown_held src line ls (Follows ts) = any_missing_held src line ts
uses_unknown_held src line ls f = refl

unknown_type_held : (src : Source) (line : ℕ) (f : Form) → uses_unknown_type (held_source src) line (held_form f) ≡ uses_unknown_type src line f
unknown_type_held src line (Declare n t g) = refl
unknown_type_held src line f = refl

in_blocks_held : (src : Source) (line : ℕ) (test other : List LabelAt → Form → Bool) → ((ls : List LabelAt) (f : Form) → test ls (held_form f) ≡ other ls f)
    → in_blocks (held_source src) line test ≡ in_blocks src line other
in_blocks_held src line test other same =
    any_same held_block (λ b. list_any (test (labels_from 0 b.items)) (at_line line b.items)) (λ b. list_any (other (labels_from 0 b.items)) (at_line line b.items))
    (λ b.
    let ls = labels_from 0 b.items in
    ap (λ ks. list_any (test ks) (at_line line (held_forms b.items))) (labels_held 0 b.items) ∙ any_at_line line b.items (test ls) (other ls) (same ls))
    src.blocks

-- a name that nothing declares, at a line
abbrev pub has_unknown : Source → List (ℕ × Form) → ℕ → Bool
has_unknown src fs line = list_any (uses_unknown_type src line) (at_line line fs) || in_blocks src line (λ ls. uses_unknown src ls line)

pub has_unknown_held : (fs : List (ℕ × Form)) (line : ℕ) → has_unknown (source_of (held_forms fs)) (held_forms fs) line ≡ has_unknown (source_of fs) fs line
has_unknown_held fs line =
    let src = source_of fs in
    ap (λ s. has_unknown s (held_forms fs) line) (source_held fs)
    ∙ ap (λ c. c || in_blocks (held_source src) line (λ ls. uses_unknown (held_source src) ls line))
    (any_at_line line fs (uses_unknown_type (held_source src) line) (uses_unknown_type src line) (unknown_type_held src line))
    ∙ ap (λ c. list_any (uses_unknown_type src line) (at_line line fs) || c)
    (in_blocks_held src line (λ ls. uses_unknown (held_source src) ls line) (λ ls. uses_unknown src ls line) (uses_unknown_held src line))
