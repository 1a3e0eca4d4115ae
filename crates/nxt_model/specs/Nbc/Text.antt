-- What the names of a text stand for, and the program that it spells.
use Rattle.std.specs.Prelude.{ℕ, ◌+◌, ◌%◌, Bool, true, false, ◌&&◌, ◌||◌, not, if◌then◌else◌, ◌==◌, nat_lt, List, [], ◌∷◌, ◌++◌, map, zip, filter, find, filter_map, flat_map, count_by, length, codes, bytes_eq, slice_get, ℤ, pos, int_lt, int_le, nat_abs, Option, Some, None, option_map, option_and_then, unwrap_or, option_to_list}
use Rattle.std.specs.List.{list_any, position, enumerate_from}
use Rattle.nxt_types.specs.Arithmetic.{cut}
use Rattle.nxt_types.specs.Shapes.{Shape}
use Rattle.nxt_types.specs.Opcodes.{classes}
use Rattle.nxt_types.specs.declared.opcodes.Class.{Class}
use Rattle.nxt_types.specs.declared.opcodes.Class.TheVariants.{Immediate, Offset, OptionalOut, OptionalIn}
use Rattle.nxt_types.specs.declared.instr.Op.{Op}
use Rattle.nxt_types.specs.declared.instr.Op.TheVariants as ops
use Rattle.nxt_types.specs.declared.kind.Cmp.{Cmp}
use Rattle.nxt_types.specs.declared.kind.Cmp.TheVariants.{Lt}
use Rattle.nxt_types.specs.declared.kind.Kind.TheVariants.{Slong}
use Rattle.nxt_model.specs.Nbc.Forms as forms
use Rattle.nxt_model.specs.Nbc.Forms.{Form, Term, Named, Literal, Quote, TypeName, Given}
use Rattle.nxt_model.specs.Nbc.Types.{Struct, type_at, shape_in, member_path, Found}
use Rattle.nxt_model.specs.Nbc.Header.{constant_named, is_header_struct}
use Rattle.nxt_model.specs.Nbc.Structs.{types_of}
use Rattle.nxt_model.specs.declared.nbc.NbcType.{NbcType}
use Rattle.nxt_model.specs.declared.nbc.NbcStart.{NbcStart}
use Rattle.nxt_model.specs.declared.nbc.NbcStart.TheVariants as starts
use Rattle.nxt_model.specs.declared.nbc.NbcArg.{NbcArg}
use Rattle.nxt_model.specs.declared.nbc.NbcArg.TheVariants as args
use Rattle.nxt_model.specs.declared.nbc.NbcStatement.{NbcStatement}
use Rattle.nxt_model.specs.declared.nbc.NbcBlock.{NbcBlock}
use Rattle.nxt_model.specs.TextProgram as program

-- ---- declarations

pub record Variable : Type 0 where
  pub name : List ℕ
  pub type : NbcType
  pub given : Given
  pub line : ℕ

-- a thread or subroutine, with the line that opens it and the lines up to the one that closes it
pub record Block : Type 0 where
  pub name : List ℕ
  pub subroutine : Bool
  pub line : ℕ
  pub items : List (ℕ × Form)

-- of what sort a declared name is
pub data NameSort : Type 0 where
  OfVariable : NameSort
  OfStruct : NameSort
  OfBlock : NameSort

-- what a text declares: structs and blocks stand in the text's order, and so do all names but the header's
pub record Source : Type 0 where
  pub included : Option ℕ
  pub types : List Struct
  pub vars : List Variable
  pub blocks : List Block
  pub names : List (List ℕ × NameSort)

-- a variable's type is that at its line
abbrev pub variable_of : List Struct → ℕ × Form → Option Variable
variable_of types (l, forms.Declare n t g) = Some (record { name = n; type = type_at types l t; given = g; line = l })
variable_of types (l, f) = None

abbrev pub declared_name : ℕ × Form → Option (List ℕ × NameSort)
declared_name (l, forms.Declare n t g) = Some (n, OfVariable)
declared_name (l, forms.OpenStruct n) = Some (n, OfStruct)
declared_name (l, forms.OpenThread n) = Some (n, OfBlock)
declared_name (l, forms.OpenSubroutine n) = Some (n, OfBlock)
declared_name (l, f) = None

-- up to the line that closes the block
abbrev pub items_of : List (ℕ × Form) → List (ℕ × Form)
items_of [] = []
items_of ((l, forms.CloseBlock) ∷ fs) = (l, forms.CloseBlock) ∷ []
items_of (f ∷ fs) = f ∷ items_of fs

abbrev pub block : List ℕ → Bool → ℕ → List (ℕ × Form) → Block
block name subroutine line fs = record { name = name; subroutine = subroutine; line = line; items = items_of fs }

abbrev pub blocks_in : List (ℕ × Form) → List Block
blocks_in [] = []
blocks_in ((l, forms.OpenThread n) ∷ fs) = block n false l fs ∷ blocks_in fs
blocks_in ((l, forms.OpenSubroutine n) ∷ fs) = block n true l fs ∷ blocks_in fs
blocks_in (f ∷ fs) = blocks_in fs

abbrev pub source_of : List (ℕ × Form) → Source
source_of fs =
    let types = types_of fs in
    record {
      included = types.included;
      types = types.structs;
      vars = filter_map (variable_of types.structs) fs;
      blocks = blocks_in fs;
      names = filter_map declared_name fs;
    }

abbrev pub is_main : Block → Bool
is_main b = not b.subroutine && bytes_eq b.name (codes "main")

-- main first, and then the others
abbrev pub ordered : Source → List Block
ordered src = filter is_main src.blocks ++ filter (λ b. not (is_main b)) src.blocks

abbrev pub included_before : Option ℕ → ℕ → Bool
included_before None line = false
included_before (Some l) line = nat_lt l line

-- the header's names are known behind its line
abbrev pub is_included_at : Source → ℕ → Bool
is_included_at src line = included_before src.included line

-- ---- names

-- what an operand stands for
pub data Denoted : Type 0 where
  -- a variable by its number and positions of members, with its shape
  AVariable : ℕ → List ℕ → Shape → Denoted
  ANumber : ℤ → Denoted
  AText : List ℕ → Denoted
  -- a thread or subroutine by its number
  ABlock : ℕ → Bool → Denoted
  AType : Denoted
  -- nothing declares the name, or the member isn't there
  Missing : Denoted

-- of the lines that declare a name the first counts
abbrev pub sort_named : Source → List ℕ → Option NameSort
sort_named src name = option_map (λ d. d.1) (find (λ d. bytes_eq d.0 name) src.names)

abbrev pub variable_named : Source → List ℕ → Option ℕ
variable_named src name = position (λ v. bytes_eq v.name name) src.vars

abbrev pub block_named : Source → List ℕ → Option ℕ
block_named src name = position (λ b. bytes_eq b.name name) (ordered src)

-- a thread's or subroutine's number
abbrev pub block_at : Source → ℕ → Option Block
block_at src k = slice_get (ordered src) k

abbrev pub member_of : Source → ℕ → Option Found → Denoted
member_of src i None = Missing
member_of src i (Some f) = AVariable i f.0 (shape_in src.types f.1)

abbrev pub path_in : Source → ℕ → List (List ℕ) → Option Variable → Denoted
path_in src i ns None = Missing
path_in src i ns (Some v) = member_of src i (member_path src.types v.type ns)

abbrev pub a_variable : Source → Option ℕ → List (List ℕ) → Denoted
a_variable src None ns = Missing
a_variable src (Some i) ns = path_in src i ns (slice_get src.vars i)

-- the number of a block, and whether it is a subroutine
abbrev pub block_place : ℕ → Block → ℕ × Bool
block_place k b = (k, b.subroutine)

abbrev pub block_by : Source → List ℕ → Option (ℕ × Bool)
block_by src name = option_and_then (λ k. option_map (block_place k) (block_at src k)) (block_named src name)

abbrev pub a_block : Option (ℕ × Bool) → Denoted
a_block None = Missing
a_block (Some b) = ABlock b.0 b.1

-- a name of the header's, which are known behind its line
abbrev pub of_header : Option ℕ → Bool → Denoted
of_header (Some n) is_type = ANumber (pos n)
of_header None is_type = if is_type then AType else Missing

abbrev pub predefined : Source → ℕ → List ℕ → Denoted
predefined src line name = if is_included_at src line then of_header (constant_named name) (is_header_struct name) else Missing

-- only variables have members
abbrev pub alone : List (List ℕ) → Denoted → Denoted
alone [] d = d
alone (n ∷ ns) d = Missing

-- a name by the sort of what declares it
abbrev pub by_sort : Source → ℕ → Option NameSort → List ℕ → List (List ℕ) → Denoted
by_sort src line (Some OfVariable) name ns = a_variable src (variable_named src name) ns
by_sort src line (Some OfStruct) name ns = alone ns AType
by_sort src line (Some OfBlock) name ns = alone ns (a_block (block_by src name))
by_sort src line None name ns = alone ns (predefined src line name)

abbrev pub denoted : Source → ℕ → Term → Denoted
denoted src line (Literal z) = ANumber z
denoted src line (Quote s) = AText s
denoted src line (Named []) = Missing
denoted src line (Named (n ∷ ns)) = by_sort src line (sort_named src n) n ns

-- ---- labels

-- a line that is a statement of its block; the last one closes it
abbrev pub is_statement : Form → Bool
is_statement forms.Exit = true
is_statement (forms.ExitTo t) = true
is_statement forms.Return = true
is_statement (forms.Call t) = true
is_statement (forms.Do label op cmp ts) = true
is_statement forms.CloseBlock = true
is_statement _ = false

abbrev pub label_of : Form → Option (List ℕ)
label_of (forms.Label l) = Some l
label_of (forms.Do label op cmp ts) = label
label_of _ = None

-- the labels with their lines, and the positions of the statements that they name
pub record LabelAt : Type 0 where
  pub name : List ℕ
  pub line : ℕ
  pub position : ℕ

abbrev pub label_at : ℕ → ℕ → Option (List ℕ) → List LabelAt
label_at line k None = []
label_at line k (Some l) = record { name = l; line = line; position = k } ∷ []

abbrev pub labels_from : ℕ → List (ℕ × Form) → List LabelAt
labels_from k [] = []
labels_from k ((line, f) ∷ fs) =
    label_at line k (label_of f) ++ labels_from (if is_statement f then k + 1 else k) fs

abbrev pub label_named : List LabelAt → List ℕ → Option ℕ
label_named ls name = option_map (λ l. l.position) (find (λ l. bytes_eq l.name name) ls)

-- ---- threads

-- each once
abbrev pub once : List ℕ → List ℕ → List ℕ
once seen [] = []
once seen (k ∷ ks) = if list_any (λ q. q == k) seen then once seen ks else k ∷ once (k ∷ seen) ks

abbrev pub named_block : Source → Term → List ℕ
named_block src (Named (n ∷ [])) = option_to_list (block_named src n)
named_block src t = []

abbrev pub blocks_named : Source → List Term → List ℕ
blocks_named src ts = flat_map (named_block src) ts

-- the threads that a line of a thread precedes, follows, or exits to
abbrev pub preceded_by : Source → ℕ × Form → List ℕ
preceded_by src (l, forms.Precedes ts) = blocks_named src ts
preceded_by src (l, f) = []

abbrev pub followed_by : Source → ℕ × Form → List ℕ
followed_by src (l, forms.Follows ts) = blocks_named src ts
followed_by src (l, f) = []

abbrev pub exited_by : Source → ℕ × Form → List ℕ
exited_by src (l, forms.ExitTo t) = named_block src t
exited_by src (l, f) = []

abbrev pub holds_number : List ℕ → ℕ → Bool
holds_number ks k = list_any (λ q. q == k) ks

-- the threads that name thread k in their follows, in the text's order
abbrev pub followers_of : Source → ℕ → List ℕ
followers_of src k =
    filter_map
    (λ b. if holds_number (flat_map (followed_by src) b.items) k then block_named src b.name else None)
    src.blocks

-- the threads that are lowered when a thread ends
abbrev pub dependents_of : Source → ℕ → Block → List ℕ
dependents_of src k b =
    if b.subroutine then [] else once [] (flat_map (preceded_by src) b.items ++ followers_of src k)

abbrev pub numbered : Source → List (ℕ × Block)
numbered src = enumerate_from 0 (ordered src)

-- the threads that have block k as a dependent or exit to it
abbrev pub fire_of : Source → ℕ → Block → ℕ
fire_of src k b =
    if b.subroutine then 1
    else if is_main b then 0
    else count_by
    (λ x. holds_number (dependents_of src x.0 x.1) k || holds_number (flat_map (exited_by src) x.1.items) k)
    (numbered src)

-- ---- statements

-- a number from 0 to 65535
abbrev pub is_word : ℤ → Bool
is_word z = int_le (pos 0) z && int_lt z (pos 65536)

abbrev pub number_arg : Class → ℤ → NbcArg
number_arg Immediate z = if is_word z then args.Imm (nat_abs z) else args.Number (cut Slong z)
number_arg c z = args.Number (cut Slong z)

abbrev pub denoted_arg : Class → Denoted → NbcArg
denoted_arg c (AVariable i path s) = args.Var i (map pos path)
denoted_arg c (ANumber z) = number_arg c z
denoted_arg c (AText s) = args.Text s
denoted_arg c (ABlock k sub) = args.Block k
denoted_arg c AType = args.Left
denoted_arg c Missing = args.Left

-- the name of what is left out
abbrev pub is_left_out : Source → ℕ → Term → Bool
is_left_out src line (Named (n ∷ [])) = is_included_at src line && bytes_eq n (codes "NA")
is_left_out src line t = false

abbrev pub label_arg : List LabelAt → Term → NbcArg
label_arg ls (Named (l ∷ [])) = args.Jump (unwrap_or (label_named ls l) 0)
label_arg ls t = args.Left

abbrev pub arg_of : Source → List LabelAt → ℕ → Class → Term → NbcArg
arg_of src ls line OptionalOut t = if is_left_out src line t then args.Left else denoted_arg OptionalOut (denoted src line t)
arg_of src ls line OptionalIn t = if is_left_out src line t then args.Left else denoted_arg OptionalIn (denoted src line t)
arg_of src ls line Offset t = label_arg ls t
arg_of src ls line c t = denoted_arg c (denoted src line t)

abbrev pub args_of : Source → List LabelAt → ℕ → Op → List Term → List NbcArg
args_of src ls line op ts = map (λ p. arg_of src ls line p.0 p.1) (zip (classes op (length ts)) ts)

abbrev pub statement : ℕ → Op → Cmp → List NbcArg → NbcStatement
statement line op cmp args = record { op = op; cmp = cmp; args = args; line = line }

-- the end of a thread with n dependents
abbrev pub ending : ℕ → ℕ → NbcStatement
ending line n = statement line ops.Finclump Lt (args.Imm 0 ∷ args.Imm ((n + 65535) % 65536) ∷ [])

abbrev pub returning : ℕ → ℕ → NbcStatement
returning line k = statement line ops.Subret Lt (args.Back k ∷ [])

-- what a line of block k adds to its statements
abbrev pub statements_in : Source → List LabelAt → ℕ → Bool → ℕ → ℕ × Form → List NbcStatement
statements_in src ls k sub n (line, forms.Do label op cmp ts) = statement line op cmp (args_of src ls line op ts) ∷ []
statements_in src ls k sub n (line, forms.Call t) =
    map (λ s. statement line ops.Subcall Lt (args.Block s ∷ args.Back s ∷ [])) (named_block src t)
statements_in src ls k sub n (line, forms.Return) = returning line k ∷ []
statements_in src ls k sub n (line, forms.Exit) = ending line n ∷ []
statements_in src ls k sub n (line, forms.ExitTo t) =
    map (λ s. statement line ops.Finclumpimmed Lt (args.Block s ∷ [])) (named_block src t)
statements_in src ls k sub n (line, forms.CloseBlock) = (if sub then returning line k else ending line n) ∷ []
statements_in src ls k sub n (line, f) = []

-- ---- the program

abbrev pub start_of : Given → NbcStart
start_of forms.Nothing = starts.Zero
start_of (forms.One z) = starts.Num z
start_of (forms.Many zs) = starts.List zs
start_of (forms.Bytes s) = starts.Text s

abbrev pub program_block : Source → ℕ × Block → NbcBlock
program_block src (k, b) =
    let ds = dependents_of src k b in
    record {
      subroutine = b.subroutine;
      fire = fire_of src k b;
      dependents = ds;
      body = flat_map (statements_in src (labels_from 0 b.items) k b.subroutine (length ds)) b.items;
    }

abbrev pub program_var : List Struct → Variable → program.Variable
program_var types v = record { shape = shape_in types v.type; start = start_of v.given }

abbrev pub program_of : Source → program.Text
program_of src =
    record { vars = map (program_var src.types) src.vars; blocks = map (program_block src) (numbered src) }
