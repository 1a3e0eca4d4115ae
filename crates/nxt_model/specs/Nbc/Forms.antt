-- The forms of a text's lines, by the place where they stand.
use Rattle.std.specs.Prelude.{ℕ, zero, suc, ◌+◌, Bool, true, false, ◌&&◌, ◌||◌, not, if◌then◌else◌, ◌==◌, nat_le, min, List, [], ◌∷◌, length, drop, map, codes, bytes_eq, ℤ, Option, Some, None, option_map, option_and_then}
use Rattle.std.specs.List.{slice_split}
use Rattle.nxt_types.specs.declared.instr.Op.{Op}
use Rattle.nxt_types.specs.declared.instr.Op.TheVariants as ops
use Rattle.nxt_types.specs.declared.kind.Cmp.{Cmp}
use Rattle.nxt_types.specs.declared.kind.Cmp.TheVariants.{Lt}
use Rattle.nxt_types.specs.Opcodes.{arity, takes, has_comparison, op_named}
use Rattle.nxt_types.specs.Mnemonics.{cmp_named}
use Rattle.nxt_model.specs.Nbc.Tokens.{Word, Name, Number, Quoted, Sign, Line}

-- ---- parts of lines

-- an operand: a name with members, a number, or a text
pub data Term : Type 0 where
  Named : List (List ℕ) → Term
  Literal : ℤ → Term
  Quote : List ℕ → Term

-- a type's name, and how often it is made an array
pub record TypeName : Type 0 where
  pub name : List ℕ
  pub arrays : ℕ

-- what a declaration says of the start
pub data Given : Type 0 where
  Nothing : Given
  One : ℤ → Given
  Many : List ℤ → Given
  Bytes : List ℕ → Given

pub data Form : Type 0 where
  Include : Form
  OpenData CloseData : Form
  OpenStruct : List ℕ → Form
  CloseStruct : Form
  Member : List ℕ → TypeName → Form
  Declare : List ℕ → TypeName → Given → Form
  OpenThread : List ℕ → Form
  OpenSubroutine : List ℕ → Form
  CloseBlock : Form
  Precedes : List Term → Form
  Follows : List Term → Form
  Exit : Form
  ExitTo : Term → Form
  Return : Form
  Call : Term → Form
  Label : List ℕ → Form
  -- a label, if one stands before it
  Do : Option (List ℕ) → Op → Cmp → List Term → Form

-- the word is this name
abbrev pub is_word : Word → List ℕ → Bool
is_word (Name n) name = bytes_eq n name
is_word _ name = false

abbrev pub is_sign : ℕ → Word → Bool
is_sign b (Sign c) = b == c
is_sign b _ = false

-- each has something
abbrev pub all_of : {A : Type 0} → List (Option A) → Option (List A)
all_of [] = Some []
all_of (None ∷ os) = None
all_of (Some x ∷ os) = option_map (λ xs. x ∷ xs) (all_of os)

-- the pieces between commas
abbrev pub by_commas : List Word → List (List Word)
by_commas ws = slice_split (is_sign 44) ws

-- names with dots between them
abbrev pub path_of : List Word → Option (List (List ℕ))
path_of (Name n ∷ []) = Some (n ∷ [])
path_of (Name n ∷ Sign b ∷ ws) = if b == 46 then option_map (λ ns. n ∷ ns) (path_of ws) else None
path_of _ = None

abbrev pub term_of : List Word → Option Term
term_of (Number z ∷ []) = Some (Literal z)
term_of (Quoted s ∷ []) = Some (Quote s)
term_of ws = option_map Named (path_of ws)

-- one operand or more
abbrev pub terms_of : List Word → Option (List Term)
terms_of ws = all_of (map term_of (by_commas ws))

abbrev pub number_of : List Word → Option ℤ
number_of (Number z ∷ []) = Some z
number_of _ = None

abbrev pub numbers_of : List Word → Option (List ℤ)
numbers_of ws = all_of (map number_of (by_commas ws))

-- ---- declarations

-- how many pairs of brackets stand in front, and what follows them
abbrev pub brackets : List Word → ℕ × List Word
brackets (Sign a ∷ Sign b ∷ ws) =
    if (a == 91) && (b == 93) then (let more = brackets ws in (more.0 + 1, more.1)) else (0, Sign a ∷ Sign b ∷ ws)
brackets ws = (0, ws)

-- the three names of ubyte
abbrev pub is_byte_name : List ℕ → Bool
is_byte_name n = bytes_eq n (codes "byte") || bytes_eq n (codes "ubyte") || bytes_eq n (codes "db")

-- no type has these names
abbrev pub is_keyword : List ℕ → Bool
is_keyword n = bytes_eq n (codes "struct") || bytes_eq n (codes "segment") || bytes_eq n (codes "ends")

-- the start of a variable, by its type's name and arrays, and the words after them
abbrev pub given_by : List ℕ → ℕ → List Word → Option Given
given_by t arrays [] = Some Nothing
given_by t zero (Number z ∷ []) = Some (One z)
given_by t (suc zero) (Quoted s ∷ []) = Some (Bytes s)
given_by t (suc zero) ws = option_map Many (numbers_of ws)
given_by t _ ws = None

abbrev pub type_name : List ℕ → ℕ → TypeName
type_name n arrays = record { name = n; arrays = arrays }

abbrev pub declaration : List ℕ → List ℕ → List Word → Option Form
declaration name t ws =
    let b = brackets ws in
    if is_keyword t then None else option_map (Declare name (type_name t b.0)) (given_by t b.0 b.1)

-- without a start
abbrev pub member_form : List ℕ → List ℕ → ℕ × List Word → Option Form
member_form name t (arrays, []) = if is_keyword t then None else Some (Member name (type_name t arrays))
member_form name t (arrays, w ∷ ws) = None

-- ---- statements

-- waitv is another name of wait; threads and blocks have words of their own for finclump
abbrev pub statement_op : List ℕ → Option Op
statement_op n =
    if bytes_eq n (codes "waitv") then Some ops.Wait
    else if bytes_eq n (codes "finclump") || bytes_eq n (codes "finclumpimmed") then None
    else op_named n

abbrev pub most_operands : ℕ
most_operands = 32765

abbrev pub with_terms : Option (List ℕ) → Op → Cmp → List Term → Option Form
with_terms label op cmp ts =
    if takes (arity op) (length ts) && nat_le (length ts) most_operands then Some (Do label op cmp ts) else None

abbrev pub comparison_word : List Word → Option Cmp
comparison_word (Name n ∷ []) = cmp_named n
comparison_word _ = None

-- a comparison, and then the operands
abbrev pub compared : Option (List ℕ) → Op → List (List Word) → Option Form
compared label op [] = None
compared label op (first ∷ others) =
    option_and_then (λ cmp. option_and_then (with_terms label op cmp) (all_of (map term_of others))) (comparison_word first)

abbrev pub statement_form : Option (List ℕ) → List Word → Option Form
statement_form label (Name n ∷ ws) =
    option_and_then
    (λ op. if has_comparison op then compared label op (by_commas ws) else option_and_then (with_terms label op Lt) (terms_of ws))
    (statement_op n)
statement_form label _ = None

abbrev pub labelled_form : List Word → Option Form
labelled_form (Name l ∷ Sign b ∷ []) = if b == 58 then Some (Label l) else statement_form None (Name l ∷ Sign b ∷ [])
labelled_form (Name l ∷ Sign b ∷ w ∷ ws) =
    if b == 58 then statement_form (Some l) (w ∷ ws) else statement_form None (Name l ∷ Sign b ∷ w ∷ ws)
labelled_form ws = statement_form None ws

-- ---- places

-- what a line may stand in; a struct has a name, and has a member or not
pub data Place : Type 0 where
  InData : Place
  InStruct : List ℕ → Bool → Place
  InThread : Place
  InSubroutine : Place

-- what is open, the innermost first, each with the line that opened it
abbrev pub Open : Type 0
Open = List (ℕ × Place)

-- the first of two
infixr 5 ◌or_else◌
abbrev pub ◌or_else◌ : {A : Type 0} → Option A → Option A → Option A
(Some x) or_else o = Some x
None or_else o = o

-- the form, if the words are these two names, or one with another
abbrev pub two_names : List ℕ → List ℕ → Form → List Word → Option Form
two_names a b f (v ∷ w ∷ []) = if is_word v a && is_word w b then Some f else None
two_names a b f _ = None

abbrev pub with_name : List ℕ → (List ℕ → Form) → List Word → Option Form
with_name a f (v ∷ Name n ∷ []) = if is_word v a then Some (f n) else None
with_name a f _ = None

abbrev pub one_name : List ℕ → Form → List Word → Option Form
one_name a f (w ∷ []) = if is_word w a then Some f else None
one_name a f _ = None

-- a name, and then one operand, or one or more
abbrev pub with_term : List ℕ → (Term → Form) → List Word → Option Form
with_term a f [] = None
with_term a f (v ∷ ws) = if is_word v a then option_map f (term_of ws) else None

abbrev pub with_list : List ℕ → (List Term → Form) → List Word → Option Form
with_list a f [] = None
with_list a f (v ∷ ws) = if is_word v a then option_map f (terms_of ws) else None

abbrev pub include_form : List Word → Option Form
include_form (Sign b ∷ w ∷ Quoted file ∷ []) =
    if (b == 35) && is_word w (codes "include") && bytes_eq file (codes "NXTDefs.h") then Some Include else None
include_form _ = None

abbrev pub opens_data : List Word → Option Form
opens_data ws = two_names (codes "dseg") (codes "segment") OpenData ws

abbrev pub top_form : List Word → Option Form
top_form ws =
    include_form ws or_else opens_data ws or_else with_name (codes "thread") OpenThread ws
    or_else with_name (codes "subroutine") OpenSubroutine ws

abbrev pub named_struct : List Word → Option Form
named_struct (Name n ∷ w ∷ []) = if is_word w (codes "struct") then Some (OpenStruct n) else None
named_struct _ = None

abbrev pub declared : List Word → Option Form
declared (Name n ∷ Name t ∷ ws) = declaration n t ws
declared _ = None

abbrev pub data_form : List Word → Option Form
data_form ws = two_names (codes "dseg") (codes "ends") CloseData ws or_else named_struct ws or_else declared ws

abbrev pub struct_member : List Word → Option Form
struct_member (Name n ∷ Name t ∷ ws) = member_form n t (brackets ws)
struct_member _ = None

abbrev pub struct_form : List ℕ → List Word → Option Form
struct_form n ws = two_names n (codes "ends") CloseStruct ws or_else struct_member ws

abbrev pub body_form : List Word → Option Form
body_form ws = opens_data ws or_else with_term (codes "call") Call ws or_else labelled_form ws

abbrev pub thread_form : List Word → Option Form
thread_form ws =
    one_name (codes "endt") CloseBlock ws or_else with_list (codes "precedes") Precedes ws
    or_else with_list (codes "follows") Follows ws or_else one_name (codes "exit") Exit ws
    or_else with_term (codes "exitto") ExitTo ws or_else body_form ws

abbrev pub subroutine_form : List Word → Option Form
subroutine_form ws = one_name (codes "ends") CloseBlock ws or_else one_name (codes "return") Return ws or_else body_form ws

-- the form of a line, by what is open
abbrev pub form_in : Open → List Word → Option Form
form_in [] ws = top_form ws
form_in ((l, InData) ∷ o) ws = data_form ws
form_in ((l, InStruct n has_member) ∷ o) ws = struct_form n ws
form_in ((l, InThread) ∷ o) ws = thread_form ws
form_in ((l, InSubroutine) ∷ o) ws = subroutine_form ws

abbrev pub with_member : Open → Open
with_member ((l, InStruct n has_member) ∷ o) = (l, InStruct n true) ∷ o
with_member o = o

-- what is open after a line
abbrev pub open_after : ℕ → Form → Open → Open
open_after line OpenData o = (line, InData) ∷ o
open_after line CloseData o = drop 1 o
open_after line (OpenStruct n) o = (line, InStruct n false) ∷ o
open_after line CloseStruct o = drop 1 o
open_after line (Member n t) o = with_member o
open_after line (OpenThread n) o = (line, InThread) ∷ o
open_after line (OpenSubroutine n) o = (line, InSubroutine) ∷ o
open_after line CloseBlock o = drop 1 o
open_after line _ o = o

-- ---- the text

-- the lines' forms, and the first line that has none, that ends a struct without members, or that opened what is still
-- open at the end. A line without a form opens and closes nothing
pub record Formed : Type 0 where
  pub forms : List (ℕ × Form)
  pub bad : Option ℕ

abbrev pub outermost : Open → Option ℕ
outermost [] = None
outermost ((l, p) ∷ []) = Some l
outermost ((l, p) ∷ q ∷ o) = outermost (q ∷ o)

abbrev pub put_form : ℕ → Form → Formed → Formed
put_form line f more = record more { forms = (line, f) ∷ more.forms }

abbrev pub least_bad : ℕ → Option ℕ → Option ℕ
least_bad line None = Some line
least_bad line (Some l) = Some (min line l)

abbrev pub bad_at : ℕ → Formed → Formed
bad_at line more = record more { bad = least_bad line more.bad }

-- a struct ends that has no member
abbrev pub ends_empty : Form → Open → Bool
ends_empty CloseStruct ((l, InStruct n has_member) ∷ o) = not has_member
ends_empty f o = false

abbrev pub formed_line : ℕ → Option Form → Open → (Open → Formed) → Formed
formed_line line None o more = bad_at line (more o)
formed_line line (Some f) o more =
    let next = put_form line f (more (open_after line f o)) in if ends_empty f o then bad_at line next else next

abbrev pub formed_from : List Line → Open → Formed
formed_from [] o = record { forms = []; bad = outermost o }
formed_from (l ∷ ls) o = formed_line l.0 (form_in o l.1) o (formed_from ls)

abbrev pub formed : List Line → Formed
formed ls = formed_from ls []
