-- Structs end behind members, where no line of a text is bad.
use Rattle.std.proofs.Common.{◌≡◌, ℕ, Bool, true, false, ◌&&◌, List, [], ◌∷◌, Option, Some, None, refl, sym, ap, ◌∙◌}
use Rattle.std.specs.Prelude.{if◌then◌else◌, ⊤, drop}
use Rattle.std.proofs.lemmas.Bool.{not-false}
use Rattle.nxt_model.specs.Nbc.Tokens.{Line, Word}
use Rattle.nxt_model.specs.Nbc.Forms as forms
use Rattle.nxt_model.specs.Nbc.Forms.{Form, Formed, Open, Place, InData, InStruct, InThread, InSubroutine, Term, all_of, by_commas, term_of, terms_of, is_word, brackets, given_by, type_name, member_form, statement_op, with_terms, comparison_word, compared, statement_form, labelled_form, ◌or_else◌, two_names, with_name, one_name, with_term, with_list, include_form, opens_data, top_form, named_struct, declared, declaration, data_form, struct_member, struct_form, body_form, thread_form, subroutine_form, form_in, open_after, ends_empty, put_form, bad_at, least_bad, formed_line, formed_from, formed, is_keyword}
use Rattle.nxt_asm_laws.proofs.Laws.Perhaps.{Perhaps}
use Rattle.nxt_asm_laws_layout.proofs.FormPlaces.{Inside, Outside, data_out, struct_in, subroutine_out, thread_out, top_out}

-- ---- structs that end

-- where a struct is open, with a member or without one, each end of a struct stands behind a member
abbrev pub closes : Bool → List (ℕ × Form) → Bool
closes has [] = true
closes has ((l, forms.OpenStruct n) ∷ fs) = closes false fs
closes has ((l, forms.Member n t) ∷ fs) = closes true fs
closes has ((l, forms.CloseStruct) ∷ fs) = has && closes false fs
closes has ((l, f) ∷ fs) = closes has fs

-- ---- texts

-- nothing but the innermost is a struct
abbrev NoStructs : Open → Type 0
NoStructs [] = ⊤
NoStructs ((l, InStruct n has) ∷ o) = ⊥
NoStructs ((l, p) ∷ o) = NoStructs o

abbrev FewStructs : Open → Type 0
FewStructs [] = ⊤
FewStructs ((l, p) ∷ o) = NoStructs o

-- a struct is open that has a member
abbrev has_member : Open → Bool
has_member ((l, InStruct n has) ∷ o) = has
has_member o = false

none_has : (o : Open) → NoStructs o → has_member o ≡ false
none_has [] h = refl
none_has ((l, InStruct n has) ∷ o) h = absurd h
none_has ((l, InData) ∷ o) h = refl
none_has ((l, InThread) ∷ o) h = refl
none_has ((l, InSubroutine) ∷ o) h = refl

few : (o : Open) → NoStructs o → FewStructs o
few [] h = tt
few ((l, InStruct n has) ∷ o) h = absurd h
few ((l, InData) ∷ o) h = h
few ((l, InThread) ∷ o) h = h
few ((l, InSubroutine) ∷ o) h = h

no_bad : (line : ℕ) (o : Option ℕ) → least_bad line o ≡ None → ⊥
no_bad line None e = cc
no_bad line (Some l) e = cc

-- a form in a struct
inside_step : (line l : ℕ) (n : List ℕ) (has : Bool) (o : Open) (f : Form) (fs : List (ℕ × Form)) → Inside f → NoStructs o → ends_empty f ((l, InStruct n has) ∷ o) ≡ false
    → (FewStructs (open_after line f ((l, InStruct n has) ∷ o)) → closes (has_member (open_after line f ((l, InStruct n has) ∷ o))) fs ≡ true) → closes has ((line, f) ∷ fs) ≡ true
inside_step line l n has o forms.CloseStruct fs h none ends rest =
    ap (λ b. b && closes false fs) (not-false has ends) ∙ ap (λ b. closes b fs) (sym (none_has o none)) ∙ rest (few o none)
inside_step line l n has o (forms.Member m t) fs h none ends rest = rest none
inside_step line l n has o forms.Include fs h none ends rest = absurd h
inside_step line l n has o forms.OpenData fs h none ends rest = absurd h
inside_step line l n has o forms.CloseData fs h none ends rest = absurd h
inside_step line l n has o (forms.OpenStruct m) fs h none ends rest = absurd h
inside_step line l n has o (forms.Declare m t g) fs h none ends rest = absurd h
inside_step line l n has o (forms.OpenThread m) fs h none ends rest = absurd h
inside_step line l n has o (forms.OpenSubroutine m) fs h none ends rest = absurd h
inside_step line l n has o forms.CloseBlock fs h none ends rest = absurd h
inside_step line l n has o (forms.Precedes ts) fs h none ends rest = absurd h
inside_step line l n has o (forms.Follows ts) fs h none ends rest = absurd h
inside_step line l n has o forms.Exit fs h none ends rest = absurd h
inside_step line l n has o (forms.ExitTo t) fs h none ends rest = absurd h
inside_step line l n has o forms.Return fs h none ends rest = absurd h
inside_step line l n has o (forms.Call t) fs h none ends rest = absurd h
inside_step line l n has o (forms.Label m) fs h none ends rest = absurd h
inside_step line l n has o (forms.Do label op cmp ts) fs h none ends rest = absurd h

dropped : (o : Open) → NoStructs o → NoStructs (drop 1 o)
dropped [] h = tt
dropped ((l, InStruct n has) ∷ o) h = absurd h
dropped ((l, InData) ∷ o) h = h
dropped ((l, InThread) ∷ o) h = h
dropped ((l, InSubroutine) ∷ o) h = h

-- and one elsewhere
outside_step : (line : ℕ) (o : Open) (f : Form) (fs : List (ℕ × Form)) → Outside f → NoStructs o
    → (FewStructs (open_after line f o) → closes (has_member (open_after line f o)) fs ≡ true) → closes false ((line, f) ∷ fs) ≡ true
outside_step line o forms.CloseStruct fs h none rest = absurd h
outside_step line o (forms.Member m t) fs h none rest = absurd h
outside_step line o forms.OpenData fs h none rest = rest none
outside_step line o forms.CloseData fs h none rest = ap (λ b. closes b fs) (sym (none_has (drop 1 o) (dropped o none))) ∙ rest (few (drop 1 o) (dropped o none))
outside_step line o (forms.OpenStruct m) fs h none rest = rest none
outside_step line o (forms.OpenThread m) fs h none rest = rest none
outside_step line o (forms.OpenSubroutine m) fs h none rest = rest none
outside_step line o forms.CloseBlock fs h none rest = ap (λ b. closes b fs) (sym (none_has (drop 1 o) (dropped o none))) ∙ rest (few (drop 1 o) (dropped o none))
outside_step line o forms.Include fs h none rest = ap (λ b. closes b fs) (sym (none_has o none)) ∙ rest (few o none)
outside_step line o (forms.Declare m t g) fs h none rest = ap (λ b. closes b fs) (sym (none_has o none)) ∙ rest (few o none)
outside_step line o (forms.Precedes ts) fs h none rest = ap (λ b. closes b fs) (sym (none_has o none)) ∙ rest (few o none)
outside_step line o (forms.Follows ts) fs h none rest = ap (λ b. closes b fs) (sym (none_has o none)) ∙ rest (few o none)
outside_step line o forms.Exit fs h none rest = ap (λ b. closes b fs) (sym (none_has o none)) ∙ rest (few o none)
outside_step line o (forms.ExitTo t) fs h none rest = ap (λ b. closes b fs) (sym (none_has o none)) ∙ rest (few o none)
outside_step line o forms.Return fs h none rest = ap (λ b. closes b fs) (sym (none_has o none)) ∙ rest (few o none)
outside_step line o (forms.Call t) fs h none rest = ap (λ b. closes b fs) (sym (none_has o none)) ∙ rest (few o none)
outside_step line o (forms.Label m) fs h none rest = ap (λ b. closes b fs) (sym (none_has o none)) ∙ rest (few o none)
outside_step line o (forms.Do label op cmp ts) fs h none rest = ap (λ b. closes b fs) (sym (none_has o none)) ∙ rest (few o none)

-- a line's form, by what is open
abbrev IsAt : Open → Form → Type 0
IsAt ((l, InStruct n has) ∷ o) f = Inside f
IsAt o f = Outside f

form_at : (o : Open) (ws : List Word) → Perhaps (IsAt o) (form_in o ws)
form_at [] ws = top_out ws
form_at ((l, InData) ∷ o) ws = data_out ws
form_at ((l, InStruct n has) ∷ o) ws = struct_in n ws
form_at ((l, InThread) ∷ o) ws = thread_out ws
form_at ((l, InSubroutine) ∷ o) ws = subroutine_out ws

step : (line : ℕ) (o : Open) (f : Form) (fs : List (ℕ × Form)) → IsAt o f → FewStructs o → ends_empty f o ≡ false
    → (FewStructs (open_after line f o) → closes (has_member (open_after line f o)) fs ≡ true) → closes (has_member o) ((line, f) ∷ fs) ≡ true
step line [] f fs h none ends rest = outside_step line [] f fs h tt rest
step line ((l, InStruct n has) ∷ o) f fs h none ends rest = inside_step line l n has o f fs h none ends rest
step line ((l, InData) ∷ o) f fs h none ends rest = outside_step line ((l, InData) ∷ o) f fs h none rest
step line ((l, InThread) ∷ o) f fs h none ends rest = outside_step line ((l, InThread) ∷ o) f fs h none rest
step line ((l, InSubroutine) ∷ o) f fs h none ends rest = outside_step line ((l, InSubroutine) ∷ o) f fs h none rest

line_closes : (line : ℕ) (x : Option Form) (o : Open) (more : Open → Formed) → Perhaps (IsAt o) x → FewStructs o
    → ((q : Open) → FewStructs q → (more q).bad ≡ None → closes (has_member q) (more q).forms ≡ true)
    → (formed_line line x o more).bad ≡ None → closes (has_member o) (formed_line line x o more).forms ≡ true
line_closes line None o more h fewer rest none = absurd (no_bad line (more o).bad none)
line_closes line (Some f) o more h fewer rest none = by (ends_empty f o) refl none
  where
    next : Formed
    next = put_form line f (more (open_after line f o))

    by : (c : Bool) → ends_empty f o ≡ c → (if c then bad_at line next else next).bad ≡ None → closes (has_member o) (if c then bad_at line next else next).forms ≡ true
    by true e bad = absurd (no_bad line (more (open_after line f o)).bad bad)
    by false e bad = step line o f (more (open_after line f o)).forms h fewer e (λ q. rest (open_after line f o) q bad)

all_close : (ls : List Line) (o : Open) → FewStructs o → (formed_from ls o).bad ≡ None → closes (has_member o) (formed_from ls o).forms ≡ true
all_close [] o fewer none = refl
all_close (l ∷ ls) o fewer none = line_closes l.0 (form_in o l.1) o (formed_from ls) (form_at o l.1) fewer (all_close ls) none

-- where no line is bad, each struct of a text ends behind a member
pub structs_close : (ls : List Line) → (formed ls).bad ≡ None → closes false (formed ls).forms ≡ true
structs_close ls none = all_close ls [] tt none
