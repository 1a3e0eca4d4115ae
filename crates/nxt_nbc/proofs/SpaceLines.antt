-- The names of lines that are left, by the first of them.
use Rattle.std.proofs.Common.{◌≡◌, ℕ, ◌+◌, ◌<◌, ◌≤◌, List, [], ◌∷◌, map, drop, get_or, length, filter_map, Option, refl, sym, ap, ◌∙◌, Bor}
use Rattle.std.specs.List.{cons_option}
use Rattle.std.proofs.lemmas.List.{drop_more, drop_all}
use Rattle.nxt_model.specs.Nbc.Forms.{Form}
use Rattle.nxt_model.specs.Nbc.NbcRules.{Declared, shared_name, members_in, member_spaces}
use Rattle.nxt_nbc_lines.specs.Seen.{form_seen, line_form_seen}
use Rattle.nxt_nbc_lines.specs.declared.form.TypeName.{TypeName}
use Rattle.nxt_nbc_lines.specs.declared.form.Form.{Form as ProgramForm}
use Rattle.nxt_nbc_lines.specs.declared.form.Form.TheVariants as forms
use Rattle.nxt_nbc_lines.specs.declared.forms.LineForm.{LineForm}

-- the lines from one on are that line and those behind it
pub lines_from : (lines : List LineForm) (i : ℕ) (line : LineForm) → i < length lines → line ≡ get_or lines i line
    → map line_form_seen (drop i lines) ≡ line_form_seen line ∷ map line_form_seen (drop (i + 1) lines)
lines_from lines i line within there =
    ap (map line_form_seen) (drop_more lines i line within)
    ∙ ap (λ l. line_form_seen l ∷ map line_form_seen (drop (i + 1) lines)) (sym there)

pub no_lines : (lines : List LineForm) (i : ℕ) → length lines ≤ i → map line_form_seen (drop i lines) ≡ []
no_lines lines i all = ap (map line_form_seen) (drop_all i lines all)

-- neither a member nor the end of a struct
other_member : (f : ProgramForm) → ((n : Bor (List ℕ)) (t : TypeName) → f ≡ forms.Member n t → ⊥) → (f ≡ forms.CloseStruct → ⊥)
    → (line : ℕ) (fs : List (ℕ × Form)) → members_in ((line, form_seen f) ∷ fs) ≡ members_in fs
other_member (forms.Member n t) no_member no_end line fs = absurd (no_member n t refl)
other_member forms.CloseStruct no_member no_end line fs = absurd (no_end refl)
other_member f no_member no_end line fs = refl

other_struct : (f : ProgramForm) → ((n : Bor (List ℕ)) → f ≡ forms.OpenStruct n → ⊥)
    → (line : ℕ) (fs : List (ℕ × Form)) → member_spaces ((line, form_seen f) ∷ fs) ≡ member_spaces fs
other_struct (forms.OpenStruct n) no_struct line fs = absurd (no_struct n refl)
other_struct f no_struct line fs = refl

module _ (lines : List LineForm) (i : ℕ) (line : LineForm) (within : i < length lines) (there : line ≡ get_or lines i line) where
  abbrev behind : List (ℕ × Form)
  behind = map line_form_seen (drop (i + 1) lines)

  -- the names that share one space
  pub shared_from : (o : Option Declared) → o ≡ shared_name (line_form_seen line)
      → filter_map shared_name (map line_form_seen (drop i lines)) ≡ cons_option o (filter_map shared_name (map line_form_seen (drop (i + 1) lines)))
  shared_from o e =
      ap (filter_map shared_name) (lines_from lines i line within there) ∙ ap (λ p. cons_option p (filter_map shared_name behind)) (sym e)

  -- the members of a struct, where the line declares one, ends the struct, or does neither
  pub members_from : (n : Bor (List ℕ)) (t : TypeName) → line.form ≡ forms.Member n t
      → members_in (map line_form_seen (drop i lines)) ≡ (line.line, n.now) ∷ members_in (map line_form_seen (drop (i + 1) lines))
  members_from n t is = ap members_in (lines_from lines i line within there) ∙ ap (λ f. members_in ((line.line, form_seen f) ∷ behind)) is

  pub members_end : line.form ≡ forms.CloseStruct → members_in (map line_form_seen (drop i lines)) ≡ []
  members_end is = ap members_in (lines_from lines i line within there) ∙ ap (λ f. members_in ((line.line, form_seen f) ∷ behind)) is

  pub members_behind : ((n : Bor (List ℕ)) (t : TypeName) → line.form ≡ forms.Member n t → ⊥) → (line.form ≡ forms.CloseStruct → ⊥)
      → members_in (map line_form_seen (drop i lines)) ≡ members_in (map line_form_seen (drop (i + 1) lines))
  members_behind no_member no_end = ap members_in (lines_from lines i line within there) ∙ other_member line.form no_member no_end line.line behind

  -- the members of all structs, where the line opens one, or opens none
  pub spaces_from : (n : Bor (List ℕ)) → line.form ≡ forms.OpenStruct n
      → member_spaces (map line_form_seen (drop i lines))
      ≡ members_in (map line_form_seen (drop (i + 1) lines)) ∷ member_spaces (map line_form_seen (drop (i + 1) lines))
  spaces_from n is = ap member_spaces (lines_from lines i line within there) ∙ ap (λ f. member_spaces ((line.line, form_seen f) ∷ behind)) is

  pub spaces_behind : ((n : Bor (List ℕ)) → line.form ≡ forms.OpenStruct n → ⊥)
      → member_spaces (map line_form_seen (drop i lines)) ≡ member_spaces (map line_form_seen (drop (i + 1) lines))
  spaces_behind no_struct = ap member_spaces (lines_from lines i line within there) ∙ other_struct line.form no_struct line.line behind
