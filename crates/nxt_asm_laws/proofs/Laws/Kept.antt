-- What the lines of a text keep, where no rule is broken.
use Rattle.std.proofs.Common.{◌≡◌, ℕ, Bool, true, false, ◌||◌, ◌==◌, not, List, [], ◌∷◌, Option, Some, None, refl, sym, ap, ◌∙◌, ◌⊎◌, inl, inr, eq-eqb}
use Rattle.std.specs.Prelude.{if◌then◌else◌}
use Rattle.std.specs.List.{cons_option, list_any}
use Rattle.std.proofs.lemmas.Bool.{and_cases, both_ways, not-false, or_parts}
use Rattle.nxt_model.specs.Nbc.Forms as forms
use Rattle.nxt_model.specs.Nbc.Forms.{Form, Formed, Given, TypeName, is_byte_name}
use Rattle.nxt_model.specs.Nbc.NbcRules.{TextFault, UnknownName, Syntax, OutOfRange, at_line, has_large_type, has_wrong_text, in_blocks, is_at, is_out_of_range, tells, uses_unknown, uses_unknown_type}
use Rattle.nxt_model.specs.Nbc.Text.{Source, source_of}
use Rattle.nxt_model.specs.Nbc.Types.{Struct, is_type_at}
use Rattle.nxt_asm_laws.proofs.Laws.Lists.{Each}

-- ---- lines

-- a test that finds none finds none behind the first
rest_none : {X : Type 0} (p : X → Bool) (o : Option X) (xs : List X) → list_any p (cons_option o xs) ≡ false → list_any p xs ≡ false
rest_none p None xs e = e
rest_none p (Some x) xs e = (or_parts (p x) (list_any p xs) e).1

-- what a test finds at no line holds of no form
pub kept_lines : (test : ℕ → Form → Bool) (fs : List (ℕ × Form)) → ((line : ℕ) → list_any (test line) (at_line line fs) ≡ false) → Each (λ l. test l.0 l.1 ≡ false) fs
kept_lines test [] none = tt
kept_lines test ((l, f) ∷ fs) none = (
  (or_parts (test l f) (list_any (test l) (at_line l fs))
      (sym (ap (λ c. list_any (test l) (cons_option (if c then Some f else None) (at_line l fs))) (eq-eqb l l refl)) ∙ none l)).0,
  kept_lines test fs (λ line. rest_none (test line) (if l == line then Some f else None) (at_line line fs) (none line)),
)

-- ---- texts as starts

-- a text starts bytes
pub text_bytes : (types : List Struct) (line : ℕ) (n : List ℕ) (t : TypeName) (g : Given) → has_wrong_text types line (forms.Declare n t g) ≡ false → is_type_at types line t.name ≡ true
    → (bytes : List ℕ) → g ≡ forms.Bytes bytes → is_byte_name t.name ≡ true
text_bytes types line n t g e known bytes is =
    by (and_cases (is_type_at types line t.name) (not (is_byte_name t.name)) (sym (ap (λ x. has_wrong_text types line (forms.Declare n t x)) is) ∙ e))
  where
    by : (is_type_at types line t.name ≡ false) ⊎ (not (is_byte_name t.name) ≡ false) → is_byte_name t.name ≡ true
    by (inl unknown) = absurd (both_ways (is_type_at types line t.name) unknown known)
    by (inr byte) = not-false (is_byte_name t.name) byte

-- ---- a text

-- what a line keeps
pub record IsKept (src : Source) (l : ℕ × Form) : Type 0 where
  pub known : uses_unknown_type src l.0 l.1 ≡ false
  pub text : has_wrong_text src.types l.0 l.1 ≡ false
  pub range : is_out_of_range src l.0 l.1 ≡ false

both_kept : (src : Source) (fs : List (ℕ × Form)) → Each (λ l. uses_unknown_type src l.0 l.1 ≡ false) fs
    → Each (λ l. (has_large_type src.types l.0 l.1 || has_wrong_text src.types l.0 l.1) ≡ false) fs
    → Each (λ l. is_out_of_range src l.0 l.1 ≡ false) fs → Each (IsKept src) fs
both_kept src [] known texts ranges = tt
both_kept src ((l, f) ∷ fs) known texts ranges = (
  record {
    known = known.0;
    text = (or_parts (has_large_type src.types l f) (has_wrong_text src.types l f) texts.0).1;
    range = ranges.0;
  },
  both_kept src fs known.1 texts.1 ranges.1,
)

-- the lines of a text that keeps the rules
pub lines_kept : (fd : Formed) → ((f : TextFault) → tells fd f ≡ false) → Each (IsKept (source_of fd.forms)) fd.forms
lines_kept fd told =
    let fs = fd.forms in
    let src : Source = source_of fs in
    let large : ℕ → Form → Bool = λ line f. has_large_type src.types line f || has_wrong_text src.types line f in
    both_kept src fs
    (kept_lines (uses_unknown_type src) fs
    (λ line. (or_parts (list_any (uses_unknown_type src line) (at_line line fs)) (in_blocks src line (λ ls. uses_unknown src ls line)) (told (UnknownName line))).0))
    (kept_lines large fs (λ line. (or_parts (is_at line fd.bad) (list_any (large line) (at_line line fs)) (told (Syntax line))).1))
    (kept_lines (is_out_of_range src) fs (λ line. told (OutOfRange line)))
