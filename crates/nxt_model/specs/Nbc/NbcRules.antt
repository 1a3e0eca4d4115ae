-- When a text is refused before it is assembled.
use Rattle.std.specs.Prelude.{◌≡◌, ℕ, zero, suc, ◌+◌, Bool, true, false, ◌&&◌, ◌||◌, not, if◌then◌else◌, ◌==◌, nat_lt, List, [], ◌∷◌, ◌++◌, map, zip, filter_map, sum_by, length, bytes_eq, slice_get, slice_index_or, ℤ, pos, negsuc, int_lt, nat_abs, Option, Some, None, is_some, is_none, Ok, Err, IsTrue}
use Rattle.std.specs.List.{list_any, list_all, enumerate_from}
use Rattle.std.specs.Ordering.{int_eq}
use Rattle.nxt_types.specs.Arithmetic.{cut}
use Rattle.nxt_types.specs.Shapes.{Shape, Number, Array}
use Rattle.nxt_types.specs.Names.{size}
use Rattle.nxt_types.specs.Opcodes.{classes}
use Rattle.nxt_types.specs.declared.opcodes.Class.{Class}
use Rattle.nxt_types.specs.declared.opcodes.Class.TheVariants.{Immediate, Clump, Offset, OptionalOut, OptionalIn}
use Rattle.nxt_types.specs.OperandRules.{Sort, Part, Word, Absent, Unknown, has_kind, is_allowed, is_destination}
use Rattle.nxt_types.specs.declared.instr.Op.{Op}
use Rattle.nxt_types.specs.declared.kind.Kind.TheVariants.{Slong}
use Rattle.nxt_model.specs.Nbc.Tokens.{Token, tokens_of, lines_of}
use Rattle.nxt_model.specs.Nbc.Forms as forms
use Rattle.nxt_model.specs.Nbc.Forms.{Form, Formed, Term, Named, Literal, Quote, TypeName, Given, is_byte_name, formed}
use Rattle.nxt_model.specs.Nbc.Types.{Struct, shape_at, is_type_at, plain_type, depth_of}
use Rattle.nxt_model.specs.TextProgram.{text_shape}
use Rattle.nxt_model.specs.Nbc.Header.{constant_named, is_header_struct}
use Rattle.nxt_model.specs.declared.nbc.NbcBase.{NbcBase}
use Rattle.nxt_model.specs.declared.nbc.NbcBase.TheVariants as bases
use Rattle.nxt_model.specs.Nbc.Text.{Source, Block, source_of, is_main, denoted, Denoted, AVariable, ANumber, AText, ABlock, AType, Missing, LabelAt, labels_from, label_named, is_left_out, is_word}

pub data TextFault : Type 0 where
  -- at lines; a kind also tells an operand, and too many a case
  Lex : ℕ → TextFault
  Syntax : ℕ → TextFault
  UnknownName : ℕ → TextFault
  TwiceNamed : ℕ → TextFault
  WrongKind : ℕ → ℕ → TextFault
  OutOfRange : ℕ → TextFault
  NoMain : TextFault
  TooMany : ℕ → TextFault

-- the forms of the lines at a line
abbrev pub at_line : ℕ → List (ℕ × Form) → List Form
at_line line fs = filter_map (λ x. if x.0 == line then Some x.1 else None) fs

-- ---- syntax

-- too many entries, or too deep
abbrev pub is_too_large : Shape → Bool
is_too_large s = nat_lt 49151 (size s) || nat_lt 8 (depth_of s)

abbrev pub has_large_type : List Struct → ℕ → Form → Bool
has_large_type types line (forms.Declare n t g) = is_too_large (shape_at types line t)
has_large_type types line (forms.Member n t) = is_too_large (shape_at types line t)
has_large_type types line f = false

-- a text as the start of a list of a type that isn't ubyte; a name that is no type is left to another rule
abbrev pub has_wrong_text : List Struct → ℕ → Form → Bool
has_wrong_text types line (forms.Declare n t (forms.Bytes s)) = is_type_at types line t.name && not (is_byte_name t.name)
has_wrong_text types line f = false

abbrev pub is_at : ℕ → Option ℕ → Bool
is_at line None = false
is_at line (Some l) = l == line

abbrev pub is_bad_line : Formed → ℕ → Bool
is_bad_line fd line =
    let types = (source_of fd.forms).types in
    is_at line fd.bad || list_any (λ f. has_large_type types line f || has_wrong_text types line f) (at_line line fd.forms)

-- ---- names that nothing declares

abbrev pub is_missing : Denoted → Bool
is_missing Missing = true
is_missing _ = false

-- a label that isn't in the block; another operand is no label
abbrev pub lacks_label : Source → List LabelAt → ℕ → Term → Bool
lacks_label src ls line (Named (l ∷ [])) = is_none (label_named ls l)
lacks_label src ls line t = is_missing (denoted src line t)

abbrev pub is_unknown : Source → List LabelAt → ℕ → Class → Term → Bool
is_unknown src ls line Offset t = lacks_label src ls line t
is_unknown src ls line c t = is_missing (denoted src line t)

abbrev pub any_missing : Source → ℕ → List Term → Bool
any_missing src line ts = list_any (λ t. is_missing (denoted src line t)) ts

-- a line of a block with these labels
abbrev pub uses_unknown : Source → List LabelAt → ℕ → Form → Bool
uses_unknown src ls line (forms.Do label op cmp ts) =
    list_any (λ p. is_unknown src ls line p.0 p.1) (zip (classes op (length ts)) ts)
uses_unknown src ls line (forms.Call t) = any_missing src line (t ∷ [])
uses_unknown src ls line (forms.ExitTo t) = any_missing src line (t ∷ [])
uses_unknown src ls line (forms.Precedes ts) = any_missing src line ts
uses_unknown src ls line (forms.Follows ts) = any_missing src line ts
uses_unknown src ls line f = false

-- a declaration of an unknown type
abbrev pub uses_unknown_type : Source → ℕ → Form → Bool
uses_unknown_type src line (forms.Declare n t g) = not (is_type_at src.types line t.name)
uses_unknown_type src line (forms.Member n t) = not (is_type_at src.types line t.name)
uses_unknown_type src line f = false

-- a test of the lines of a block at a line
abbrev pub in_blocks : Source → ℕ → (List LabelAt → Form → Bool) → Bool
in_blocks src line test = list_any (λ b. list_any (test (labels_from 0 b.items)) (at_line line b.items)) src.blocks

-- ---- names that are declared twice

-- a name with the line that declares it
abbrev pub Declared : Type 0
Declared = ℕ × List ℕ

abbrev pub shared_name : ℕ × Form → Option Declared
shared_name (l, forms.Declare n t g) = Some (l, n)
shared_name (l, forms.OpenStruct n) = Some (l, n)
shared_name (l, forms.OpenThread n) = Some (l, n)
shared_name (l, forms.OpenSubroutine n) = Some (l, n)
shared_name (l, f) = None

-- the members of a struct up to its end
abbrev pub members_in : List (ℕ × Form) → List Declared
members_in [] = []
members_in ((l, forms.Member n t) ∷ fs) = (l, n) ∷ members_in fs
members_in ((l, forms.CloseStruct) ∷ fs) = []
members_in (f ∷ fs) = members_in fs

abbrev pub member_spaces : List (ℕ × Form) → List (List Declared)
member_spaces [] = []
member_spaces ((l, forms.OpenStruct n) ∷ fs) = members_in fs ∷ member_spaces fs
member_spaces (f ∷ fs) = member_spaces fs

abbrev pub label_space : Block → List Declared
label_space b = map (λ l. (l.line, l.name)) (labels_from 0 b.items)

-- the names that all share one space, the members of each struct, and the labels of each block
abbrev pub spaces : List (ℕ × Form) → List (List Declared)
spaces fs = filter_map shared_name fs ∷ member_spaces fs ++ map label_space (source_of fs).blocks

-- the line declares a name again
abbrev pub is_repeated : ℕ → List Declared → Bool
is_repeated line [] = false
is_repeated line (d ∷ ds) = list_any (λ e. (e.0 == line) && bytes_eq e.1 d.1) ds || is_repeated line ds

-- the name of a type, also of a struct that ends before the line, or one of the header's
abbrev pub is_taken : Source → ℕ → List ℕ → Bool
is_taken src line name =
    is_type_at src.types line name || (is_some src.included && (is_some (constant_named name) || is_header_struct name))

abbrev pub is_twice_named : List (ℕ × Form) → ℕ → Bool
is_twice_named fs line =
    list_any (λ ds. is_repeated line ds || list_any (λ d. (d.0 == line) && is_taken (source_of fs) line d.1) ds) (spaces fs)

-- ---- kinds

-- an immediate's word; a number that has none counts as the greatest
abbrev pub word_for : ℤ → ℕ
word_for z = if is_word z then nat_abs z else 65535

-- what an operand is that nothing is stored in, or that something is
abbrev pub sort_of_number : Class → Bool → ℤ → Sort
sort_of_number Immediate stored z = Word (word_for z)
sort_of_number c true z = Unknown
sort_of_number c false z = Part (Number Slong)

abbrev pub sort_of_denoted : Class → Bool → Denoted → Sort
sort_of_denoted c stored (AVariable i path s) = Part s
sort_of_denoted c stored (ANumber z) = sort_of_number c stored z
sort_of_denoted c stored (AText s) = if stored then Unknown else Part text_shape
sort_of_denoted c stored (ABlock k sub) = if sub then Word 0 else Unknown
sort_of_denoted c stored AType = Unknown
sort_of_denoted c stored Missing = Unknown

abbrev pub sort_of_term : Source → ℕ → Class → Bool → Term → Sort
sort_of_term src line OptionalOut stored t =
    if is_left_out src line t then Absent else sort_of_denoted OptionalOut stored (denoted src line t)
sort_of_term src line OptionalIn stored t =
    if is_left_out src line t then Absent else sort_of_denoted OptionalIn stored (denoted src line t)
sort_of_term src line c stored t = sort_of_denoted c stored (denoted src line t)

abbrev pub sorts_from : Source → ℕ → Op → ℕ → List (Class × Term) → List Sort
sorts_from src line op k [] = []
sorts_from src line op k ((c, t) ∷ more) = sort_of_term src line c (is_destination op k) t ∷ sorts_from src line op (k + 1) more

abbrev pub sorts_of : Source → ℕ → Op → List Term → List Sort
sorts_of src line op ts = sorts_from src line op 0 (zip (classes op (length ts)) ts)

-- a label, the name of a subroutine or a number, where the class asks for it
abbrev pub is_label : Term → Bool
is_label (Named (l ∷ [])) = true
is_label _ = false

abbrev pub is_subroutine : Denoted → Bool
is_subroutine (ABlock k sub) = sub
is_subroutine _ = false

abbrev pub is_thread : Denoted → Bool
is_thread (ABlock k sub) = not sub
is_thread _ = false

abbrev pub is_number : Denoted → Bool
is_number (ANumber z) = true
is_number _ = false

abbrev pub has_class : Source → ℕ → Class → Term → Bool
has_class src line Offset t = is_label t
has_class src line Clump t = is_subroutine (denoted src line t)
has_class src line Immediate t = is_number (denoted src line t)
has_class src line c t = true

abbrev pub class_at : Op → ℕ → ℕ → Class
class_at op n k = slice_index_or (classes op n) k Immediate

-- operand k, counted from 0
abbrev pub is_wrong_term : Source → ℕ → Op → List Term → ℕ → Bool
is_wrong_term src line op ts k =
    not (has_class src line (class_at op (length ts) k) (slice_index_or ts k (Named []))
    && has_kind 1 op (sorts_of src line op ts) k)

abbrev pub is_no_thread : Source → ℕ → Option Term → Bool
is_no_thread src line None = false
is_no_thread src line (Some t) = not (is_thread (denoted src line t))

abbrev pub is_mutex_base : Option NbcBase → Bool
is_mutex_base (Some bases.Mutex) = true
is_mutex_base _ = false

-- a mutex, which stands in no struct and no array
abbrev pub is_mutex_type : TypeName → Bool
is_mutex_type t = is_mutex_base (plain_type t.name)

-- operand k, counted from 1, of a line
abbrev pub is_wrong_kind : Source → ℕ → ℕ → Form → Bool
is_wrong_kind src line zero f = false
is_wrong_kind src line (suc k) (forms.Do label op cmp ts) = nat_lt k (length ts) && is_wrong_term src line op ts k
is_wrong_kind src line (suc k) (forms.Call t) = (k == 0) && not (is_subroutine (denoted src line t))
is_wrong_kind src line (suc k) (forms.ExitTo t) = (k == 0) && is_no_thread src line (Some t)
is_wrong_kind src line (suc k) (forms.Precedes ts) = is_no_thread src line (slice_get ts k)
is_wrong_kind src line (suc k) (forms.Follows ts) = is_no_thread src line (slice_get ts k)
is_wrong_kind src line (suc k) (forms.Member n t) = (k == 0) && is_mutex_type t
is_wrong_kind src line (suc k) (forms.Declare n t g) = (k == 0) && nat_lt 0 t.arrays && is_mutex_type t
is_wrong_kind src line (suc k) f = false

-- ---- ranges

abbrev pub fits_shape : Shape → ℤ → Bool
fits_shape (Number k) z = int_eq (cut k z) z
fits_shape s z = false

abbrev pub fit_elements : Shape → List ℤ → Bool
fit_elements (Array n s) zs = list_all (fits_shape s) zs
fit_elements s zs = false

abbrev pub start_fits : Shape → Given → Bool
start_fits s forms.Nothing = true
start_fits s (forms.One z) = fits_shape s z
start_fits s (forms.Many zs) = fit_elements s zs
start_fits s (forms.Bytes bytes) = true

abbrev pub is_wide : Denoted → Bool
is_wide (ANumber z) = int_lt z (negsuc 2147483647) || int_lt (pos 4294967295) z
is_wide _ = false

abbrev pub is_refused_number : Source → ℕ → Op → List Term → ℕ × Term → Bool
is_refused_number src line op ts (k, t) =
    is_wide (denoted src line t) || not (is_allowed op (sorts_of src line op ts) k)

abbrev pub is_out_of_range : Source → ℕ → Form → Bool
is_out_of_range src line (forms.Declare n t g) = not (start_fits (shape_at src.types line t) g)
is_out_of_range src line (forms.Do label op cmp ts) = list_any (is_refused_number src line op ts) (enumerate_from 0 ts)
is_out_of_range src line f = false

-- ---- counts

-- more than 255 blocks, and more than 10,000 names
abbrev pub is_too_many : List (ℕ × Form) → ℕ → Bool
is_too_many fs zero = nat_lt 255 (length (source_of fs).blocks)
is_too_many fs (suc zero) = nat_lt 10000 (sum_by (λ ds. length ds) (spaces fs))
is_too_many fs (suc (suc n)) = false

-- ---- rules

-- a test of the forms of a text's lines
abbrev pub OfForms : List ℕ → (Formed → Bool) → Type 0
OfForms text test = (ts : List Token) × (tokens_of text ≡ Ok ts) × IsTrue (test (formed (lines_of text ts)))

-- the test of a fault that isn't found among the tokens
abbrev pub tells : Formed → TextFault → Bool
tells fd (Lex line) = false
tells fd (Syntax line) = is_bad_line fd line
tells fd (UnknownName line) =
    let src = source_of fd.forms in
    list_any (uses_unknown_type src line) (at_line line fd.forms) || in_blocks src line (λ ls. uses_unknown src ls line)
tells fd (TwiceNamed line) = is_twice_named fd.forms line
tells fd (WrongKind line k) = list_any (is_wrong_kind (source_of fd.forms) line k) (at_line line fd.forms)
tells fd (OutOfRange line) = list_any (is_out_of_range (source_of fd.forms) line) (at_line line fd.forms)
tells fd NoMain = not (list_any is_main (source_of fd.forms).blocks)
tells fd (TooMany case) = is_too_many fd.forms case

-- the rule of the fault is broken at the fault's place
abbrev pub Broken : List ℕ → TextFault → Type 0
Broken text (Lex line) = tokens_of text ≡ Err line
Broken text f = OfForms text (λ fd. tells fd f)

-- the rule's number, and the place
abbrev pub rank : TextFault → List ℕ
rank (Lex line) = 40 ∷ line ∷ []
rank (Syntax line) = 41 ∷ line ∷ []
rank (UnknownName line) = 42 ∷ line ∷ []
rank (TwiceNamed line) = 43 ∷ line ∷ []
rank (WrongKind line k) = 44 ∷ line ∷ k ∷ []
rank (OutOfRange line) = 45 ∷ line ∷ []
rank NoMain = 46 ∷ []
rank (TooMany case) = 47 ∷ case ∷ []
