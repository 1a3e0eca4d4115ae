-- The forms of a place, by the words that tell them apart.
use Rattle.std.specs.Prelude.{ℕ, Bool, false, ◌&&◌, not, if◌then◌else◌, List, [], ◌∷◌, Option, Some, None}
use Rattle.nxt_model.specs.Nbc.Tokens.{Word, Name}
use Rattle.nxt_model.specs.Nbc.Forms.{Term, Form, Place, Open, CloseStruct, InData, InStruct, InThread, InSubroutine, is_word, term_of, terms_of, top_form, data_form, struct_form, thread_form, subroutine_form}

-- the words are this name, or these two
abbrev pub is_alone : List ℕ → List Word → Bool
is_alone a (w ∷ []) = is_word w a
is_alone a _ = false

abbrev pub are_names : List ℕ → List ℕ → List Word → Bool
are_names a b (v ∷ w ∷ []) = is_word v a && is_word w b
are_names a b _ = false

-- what is behind a name: a name, an operand, or one operand or more
abbrev pub name_behind : List ℕ → List Word → Option (List ℕ)
name_behind a (v ∷ Name n ∷ []) = if is_word v a then Some n else None
name_behind a _ = None

abbrev pub term_behind : List ℕ → List Word → Option Term
term_behind a [] = None
term_behind a (v ∷ ws) = if is_word v a then term_of ws else None

abbrev pub list_behind : List ℕ → List Word → Option (List Term)
list_behind a [] = None
list_behind a (v ∷ ws) = if is_word v a then terms_of ws else None

-- the form of a line, by the innermost place that is open
abbrev pub form_at : Option Place → List Word → Option Form
form_at None ws = top_form ws
form_at (Some InData) ws = data_form ws
form_at (Some (InStruct n has_member)) ws = struct_form n ws
form_at (Some InThread) ws = thread_form ws
form_at (Some InSubroutine) ws = subroutine_form ws

abbrev pub innermost : Open → Option Place
innermost [] = None
innermost ((l, p) ∷ o) = Some p

-- a struct ends that has no member
abbrev pub ends_empty_at : Form → Option Place → Bool
ends_empty_at CloseStruct (Some (InStruct n has_member)) = not has_member
ends_empty_at f p = false
