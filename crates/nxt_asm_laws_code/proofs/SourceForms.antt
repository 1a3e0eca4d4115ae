-- The lines of a block: the last one closes it, and a thread has no return.
use Rattle.std.proofs.Common.{◌≡◌, ℕ, Bool, true, false, ◌==◌, List, [], ◌∷◌, Option, Some, None, refl, sym, subst, eq-eqb}
use Rattle.std.specs.Prelude.{if◌then◌else◌, ⊤}
use Rattle.std.proofs.lemmas.Bool.{both_ways}
use Rattle.std.proofs.lemmas.Option.{none-some}
use Rattle.nxt_model.specs.Nbc.Tokens.{Line, Word}
use Rattle.nxt_model.specs.Nbc.Forms as forms
use Rattle.nxt_model.specs.Nbc.Forms.{Form, Formed, Open, Place, InData, InStruct, InThread, InSubroutine, Term, all_of, bad_at, brackets, by_commas, body_form, compared, comparison_word, data_form, declaration, declared, ends_empty, form_in, formed_from, formed_line, given_by, is_keyword, is_sign, is_word, labelled_form, least_bad, member_form, most_operands, named_struct, one_name, open_after, opens_data, ◌or_else◌, put_form, statement_form, statement_op, struct_form, struct_member, subroutine_form, term_of, terms_of, thread_form, two_names, type_name, with_list, with_member, with_term, with_terms}
use Rattle.nxt_model.specs.Nbc.NbcRules.{is_at}
use Rattle.nxt_model.specs.Nbc.Text.{blocks_in, items_of}
use Rattle.nxt_asm_laws.proofs.Laws.Lists.{Each}
use Rattle.nxt_asm_laws_code.specs.Lines.{GoodItems, IsGood}
use Rattle.nxt_asm_laws.proofs.Laws.Perhaps.{Perhaps}
use Rattle.nxt_asm_laws_code.proofs.PlaceForms.{Allowed, data_fine, struct_fine, subroutine_fine, thread_fine}

-- ---- what is open

-- a thread or a subroutine is open, and only data stand in it
abbrev Within : Bool → Open → Type 0
Within sub [] = ⊥
Within sub ((l, InData) ∷ o) = Within sub o
Within sub ((l, InStruct n h) ∷ o) = Within sub o
Within sub ((l, InThread) ∷ o) = sub ≡ false
Within sub ((l, InSubroutine) ∷ o) = sub ≡ true

-- the form closes the block, or leaves it open; only a subroutine has a return
abbrev Next : Bool → ℕ → Open → Form → Type 0
Next sub line o forms.CloseBlock = ⊤
Next sub line o forms.Return = (sub ≡ true) × Within sub o
Next sub line o f = Within sub (open_after line f o)

abbrev NextOf : Bool → ℕ → Open → Option Form → Type 0
NextOf sub line o None = ⊤
NextOf sub line o (Some f) = Next sub line o f

-- what may stand in a place leaves the block open, or closes it
data_next : (sub : Bool) (line l : ℕ) (o : Open) (f : Option Form) → Within sub o → Perhaps (Allowed InData) f → NextOf sub line ((l, InData) ∷ o) f
data_next sub line l o None w h = tt
data_next sub line l o (Some forms.CloseData) w h = w
data_next sub line l o (Some (forms.OpenStruct n)) w h = w
data_next sub line l o (Some (forms.Declare n t g)) w h = w
data_next sub line l o (Some f) w h = absurd h

struct_next : (sub : Bool) (line l : ℕ) (m : List ℕ) (b : Bool) (o : Open) (f : Option Form) → Within sub o → Perhaps (Allowed (InStruct m b)) f → NextOf sub line ((l, InStruct m b) ∷ o) f
struct_next sub line l m b o None w h = tt
struct_next sub line l m b o (Some forms.CloseStruct) w h = w
struct_next sub line l m b o (Some (forms.Member n t)) w h = w
struct_next sub line l m b o (Some f) w h = absurd h

thread_next : (sub : Bool) (line l : ℕ) (o : Open) (f : Option Form) → sub ≡ false → Perhaps (Allowed InThread) f → NextOf sub line ((l, InThread) ∷ o) f
thread_next sub line l o None w h = tt
thread_next sub line l o (Some forms.CloseBlock) w h = tt
thread_next sub line l o (Some (forms.Precedes ts)) w h = w
thread_next sub line l o (Some (forms.Follows ts)) w h = w
thread_next sub line l o (Some forms.Exit) w h = w
thread_next sub line l o (Some (forms.ExitTo t)) w h = w
thread_next sub line l o (Some forms.OpenData) w h = w
thread_next sub line l o (Some (forms.Call t)) w h = w
thread_next sub line l o (Some (forms.Label n)) w h = w
thread_next sub line l o (Some (forms.Do label op cmp ts)) w h = w
thread_next sub line l o (Some f) w h = absurd h

subroutine_next : (sub : Bool) (line l : ℕ) (o : Open) (f : Option Form) → sub ≡ true → Perhaps (Allowed InSubroutine) f → NextOf sub line ((l, InSubroutine) ∷ o) f
subroutine_next sub line l o None w h = tt
subroutine_next sub line l o (Some forms.CloseBlock) w h = tt
subroutine_next sub line l o (Some forms.Return) w h = (w, w)
subroutine_next sub line l o (Some forms.OpenData) w h = w
subroutine_next sub line l o (Some (forms.Call t)) w h = w
subroutine_next sub line l o (Some (forms.Label n)) w h = w
subroutine_next sub line l o (Some (forms.Do label op cmp ts)) w h = w
subroutine_next sub line l o (Some f) w h = absurd h

-- and so does each line
next_form : (sub : Bool) (line : ℕ) (o : Open) (ws : List Word) → Within sub o → NextOf sub line o (form_in o ws)
next_form sub line [] ws w = absurd w
next_form sub line ((l, InData) ∷ o) ws w = data_next sub line l o (data_form ws) w (data_fine ws)
next_form sub line ((l, InStruct n h) ∷ o) ws w = struct_next sub line l n h o (struct_form n ws) w (struct_fine n h ws)
next_form sub line ((l, InThread) ∷ o) ws w = thread_next sub line l o (thread_form ws) w (thread_fine ws)
next_form sub line ((l, InSubroutine) ∷ o) ws w = subroutine_next sub line l o (subroutine_form ws) w (subroutine_fine ws)

-- ---- lines

-- a bad line is told
none_bad : (line : ℕ) (o : Option ℕ) → least_bad line o ≡ None → ⊥
none_bad line None e = none-some line (sym e)
none_bad line (Some l) e = none-some _ (sym e)

-- one more line, which is not bad
abbrev Added : ℕ → Form → Formed → Formed → Type 0
Added line f more whole = (whole.forms ≡ (line, f) ∷ more.forms) × (whole.bad ≡ None → more.bad ≡ None)

-- whether or not it ends an empty struct
added : (line : ℕ) (f : Form) (more : Formed) (c : Bool) → Added line f more (if c then bad_at line (put_form line f more) else put_form line f more)
added line f more true = (refl, λ e. absurd (none_bad line more.bad e))
added line f more false = (refl, λ e. e)

-- what is still open at the end is bad
open_bad : (sub : Bool) (o : Open) → Within sub o → forms.outermost o ≡ None → ⊥
open_bad sub [] w e = w
open_bad sub ((l, InThread) ∷ []) w e = none-some l (sym e)
open_bad sub ((l, InSubroutine) ∷ []) w e = none-some l (sym e)
open_bad sub ((l, InData) ∷ []) w e = w
open_bad sub ((l, InStruct n h) ∷ []) w e = w
open_bad sub ((l, p) ∷ q ∷ o) w e = some_open q o e
  where
    some_open : (q : ℕ × Place) (o : Open) → forms.outermost (q ∷ o) ≡ None → ⊥
    some_open q [] e = none-some q.0 (sym e)
    some_open q (r ∷ o) e = some_open r o e

module _ (sub : Bool) where
  good_item : (line : ℕ) (f : Form) (o : Open) (fs : List (ℕ × Form)) → Next sub line o f → (Within sub (open_after line f o) → GoodItems sub (items_of fs))
      → GoodItems sub (items_of ((line, f) ∷ fs))
  good_item line forms.CloseBlock o fs w h = refl
  good_item line forms.Return o fs w h = (w.0, h w.1)
  good_item line f o fs w h = h w

  -- one more line
  good_line : (line : ℕ) (x : Option Form) (o : Open) (more : Open → Formed) → NextOf sub line o x → (formed_line line x o more).bad ≡ None
      → ((q : Open) → Within sub q → (more q).bad ≡ None → GoodItems sub (items_of (more q).forms)) → GoodItems sub (items_of (formed_line line x o more).forms)
  good_line line None o more w e h = absurd (none_bad line (more o).bad e)
  good_line line (Some f) o more w e h =
      let next = more (open_after line f o) in
      let is = added line f next (ends_empty f o) in
      subst (λ l. GoodItems sub (items_of l)) (sym is.0) (good_item line f o next.forms w (λ v. h (open_after line f o) v (is.1 e)))

  -- the lines of a block that is open
  items_good : (ls : List Line) (o : Open) → Within sub o → (formed_from ls o).bad ≡ None → GoodItems sub (items_of (formed_from ls o).forms)
  items_good [] o w e = absurd (open_bad sub o w e)
  items_good (l ∷ ls) o w e = good_line l.0 (form_in o l.1) o (formed_from ls) (next_form sub l.0 o l.1 w) e (items_good ls)

-- ---- blocks

-- a block that opens
block_added : (line : ℕ) (f : Form) (o : Open) (ls : List Line) → (formed_from ls (open_after line f o)).bad ≡ None
    → Each IsGood (blocks_in (formed_from ls (open_after line f o)).forms) → Each IsGood (blocks_in ((line, f) ∷ (formed_from ls (open_after line f o)).forms))
block_added line (forms.OpenThread n) o ls e h = (items_good false ls ((line, InThread) ∷ o) refl e, h)
block_added line (forms.OpenSubroutine n) o ls e h = (items_good true ls ((line, InSubroutine) ∷ o) refl e, h)
block_added line f o ls e h = h

-- the blocks of a text without bad lines
pub blocks_good : (ls : List Line) (o : Open) → (formed_from ls o).bad ≡ None → Each IsGood (blocks_in (formed_from ls o).forms)
blocks_good [] o e = tt
blocks_good (l ∷ ls) o e = by (form_in o l.1) (λ q. blocks_good ls q) e
  where
    by : (x : Option Form) → ((q : Open) → (formed_from ls q).bad ≡ None → Each IsGood (blocks_in (formed_from ls q).forms)) → (formed_line l.0 x o (formed_from ls)).bad ≡ None
        → Each IsGood (blocks_in (formed_line l.0 x o (formed_from ls)).forms)
    by None more e = absurd (none_bad l.0 (formed_from ls o).bad e)
    by (Some f) more e =
        let next = formed_from ls (open_after l.0 f o) in
        let is = added l.0 f next (ends_empty f o) in
        subst (λ fs. Each IsGood (blocks_in fs)) (sym is.0) (block_added l.0 f o ls (is.1 e) (more (open_after l.0 f o) (is.1 e)))

-- a text that keeps the rule of forms has none
pub no_bad : (o : Option ℕ) → ((line : ℕ) → is_at line o ≡ false) → o ≡ None
no_bad None h = refl
no_bad (Some l) h = absurd (both_ways (l == l) (h l) (eq-eqb l l refl))
