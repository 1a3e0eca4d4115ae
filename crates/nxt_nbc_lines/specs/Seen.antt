-- Words and forms as the definitions see them.
use Rattle.std.specs.Prelude.{ℕ, ◌+◌, List, [], ◌∷◌, map, reverse, Option, Some, None, option_map}
use Rattle.std.specs.Borrow.{Bor}
use Rattle.nxt_model.specs.Nbc.Tokens.{Word, Name, Number, Quoted, Sign}
use Rattle.nxt_model.specs.Nbc.Forms.{Term, Named, Literal, Quote, TypeName, Given, Form, Place, Open, Formed, by_commas, path_of}
use Rattle.nxt_model.specs.Nbc.Forms as model
use Rattle.nxt_nbc_lines.specs.declared.words.Word.{Word as ProgramWord}
use Rattle.nxt_nbc_lines.specs.declared.words.Word.TheVariants as words
use Rattle.nxt_nbc_lines.specs.declared.terms.Term.{Term as ProgramTerm}
use Rattle.nxt_nbc_lines.specs.declared.terms.Term.TheVariants as terms
use Rattle.nxt_nbc_lines.specs.declared.form.TypeName.{TypeName as ProgramTypeName}
use Rattle.nxt_nbc_lines.specs.declared.form.Given.{Given as ProgramGiven}
use Rattle.nxt_nbc_lines.specs.declared.form.Given.TheVariants as givens
use Rattle.nxt_nbc_lines.specs.declared.form.Form.{Form as ProgramForm}
use Rattle.nxt_nbc_lines.specs.declared.form.Form.TheVariants as forms
use Rattle.nxt_nbc_lines.specs.declared.places.Place.{Place as ProgramPlace}
use Rattle.nxt_nbc_lines.specs.declared.places.Place.TheVariants as places
use Rattle.nxt_nbc_lines.specs.declared.opened.Opened.{Opened}
use Rattle.nxt_nbc_lines.specs.declared.forms.LineForm.{LineForm}
use Rattle.nxt_nbc_lines.specs.declared.forms.Formed.{Formed as ProgramFormed}

abbrev pub word_seen : ProgramWord → Word
word_seen (words.Name n) = Name n.now
word_seen (words.Number z) = Number z
word_seen (words.Quoted s) = Quoted s.now
word_seen (words.Sign b) = Sign b

abbrev pub words_seen : List ProgramWord → List Word
words_seen ws = map word_seen ws

abbrev pub names_seen : List (Bor (List ℕ)) → List (List ℕ)
names_seen ns = map (λ n. n.now) ns

abbrev pub term_seen : ProgramTerm → Term
term_seen (terms.Named ns) = Named (names_seen ns)
term_seen (terms.Literal z) = Literal z
term_seen (terms.Quote s) = Quote s.now

abbrev pub terms_seen : List ProgramTerm → List Term
terms_seen ts = map term_seen ts

-- the pieces between the commas of words, if any are left
abbrev pub pieces_in : Option (Bor (List ProgramWord)) → List (List Word)
pieces_in None = []
pieces_in (Some ws) = by_commas (words_seen ws.now)

-- the names that words spell, if any words are left
abbrev pub path_in : Option (Bor (List ProgramWord)) → Option (List (List ℕ))
path_in None = Some []
path_in (Some ws) = path_of (words_seen ws.now)

-- a name, and those behind its dot
abbrev pub path_seen : Option (Bor (List ℕ) × Option (Bor (List ProgramWord))) → Option (List (List ℕ))
path_seen None = None
path_seen (Some (n, rest)) = option_map (λ ns. n.now ∷ ns) (path_in rest)

-- so many pairs of brackets in front of others
abbrev pub more_brackets : ℕ → ℕ × List Word → ℕ × List Word
more_brackets n more = (more.0 + n, more.1)

abbrev pub type_seen : ProgramTypeName → TypeName
type_seen t = record { name = t.name.now; arrays = t.arrays }

abbrev pub given_seen : ProgramGiven → Given
given_seen givens.Nothing = model.Nothing
given_seen (givens.One z) = model.One z
given_seen (givens.Many zs) = model.Many zs
given_seen (givens.Bytes s) = model.Bytes s.now

abbrev pub label_seen : Option (Bor (List ℕ)) → Option (List ℕ)
label_seen label = option_map (λ l. l.now) label

abbrev pub form_seen : ProgramForm → Form
form_seen forms.Include = model.Include
form_seen forms.OpenData = model.OpenData
form_seen forms.CloseData = model.CloseData
form_seen (forms.OpenStruct n) = model.OpenStruct n.now
form_seen forms.CloseStruct = model.CloseStruct
form_seen (forms.Member n t) = model.Member n.now (type_seen t)
form_seen (forms.Declare n t g) = model.Declare n.now (type_seen t) (given_seen g)
form_seen (forms.OpenThread n) = model.OpenThread n.now
form_seen (forms.OpenSubroutine n) = model.OpenSubroutine n.now
form_seen forms.CloseBlock = model.CloseBlock
form_seen (forms.Precedes ts) = model.Precedes (terms_seen ts)
form_seen (forms.Follows ts) = model.Follows (terms_seen ts)
form_seen forms.Exit = model.Exit
form_seen (forms.ExitTo t) = model.ExitTo (term_seen t)
form_seen forms.Return = model.Return
form_seen (forms.Call t) = model.Call (term_seen t)
form_seen (forms.Label l) = model.Label l.now
form_seen (forms.Do label op cmp ts) = model.Do (label_seen label) op cmp (terms_seen ts)

abbrev pub place_seen : ProgramPlace → Place
place_seen places.InData = model.InData
place_seen (places.InStruct n has_member) = model.InStruct n.now has_member
place_seen places.InThread = model.InThread
place_seen places.InSubroutine = model.InSubroutine

abbrev pub opened_seen : Opened → ℕ × Place
opened_seen o = (o.line, place_seen o.place)

-- the innermost is held last
abbrev pub open_seen : List Opened → Open
open_seen os = reverse (map opened_seen os)

abbrev pub line_form_seen : LineForm → ℕ × Form
line_form_seen l = (l.line, form_seen l.form)

abbrev pub formed_seen : ProgramFormed → Formed
formed_seen f = record { forms = map line_form_seen f.forms; bad = f.bad }
