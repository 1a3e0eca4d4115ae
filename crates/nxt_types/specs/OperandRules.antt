-- Which operands a statement may have.
use Rattle.std.specs.Prelude.{◌≡◌, ◌<◌, ℕ, Bool, true, false, ◌&&◌, ◌||◌, not, if◌then◌else◌, ◌==◌, nat_lt, nat_le, List, [], ◌∷◌, map, zip, drop, length, slice_index_or, Option, Some, None}
use Rattle.nxt_types.specs.Shapes.{Shape, Void, Number, Array, Cluster, Mutex, Members, convertible, has_list, is_number, is_numbers}
use Rattle.nxt_types.specs.Names.{Name, named}
use Rattle.nxt_types.specs.Opcodes.{classes}
use Rattle.nxt_types.specs.declared.opcodes.Class.{Class}
use Rattle.nxt_types.specs.declared.opcodes.Class.TheVariants.{NumberOut, NumberIn, List as AList, Text, Anything, Mutex as AMutex, Immediate, Clump, Offset, OptionalOut, OptionalIn}
use Rattle.nxt_types.specs.Statements.{Statement}
use Rattle.nxt_types.specs.Calls.{call_of, is_cluster_of, is_text}
use Rattle.nxt_types.specs.declared.calls.Call.{Call}
use Rattle.nxt_types.specs.declared.instr.Op.{Op}
use Rattle.nxt_types.specs.declared.instr.Op.TheVariants as ops
use Rattle.nxt_types.specs.Words.{left_out, last_input, last_output}

-- ---- what an operand is

-- a part of the variables, of this shape; a word that is no name; left out; or a name of nothing
pub data Sort : Type 0 where
  Part : Shape → Sort
  Word : ℕ → Sort
  Absent : Sort
  Unknown : Sort

abbrev pub sort_of_name : Option Name → Sort
sort_of_name None = Unknown
sort_of_name (Some n) = Part n.shape

-- what an operand of a class is, by its word
abbrev pub sort_of : Members → Class → ℕ → Sort
sort_of ss Immediate w = Word w
sort_of ss Clump w = Word w
sort_of ss Offset w = Word w
sort_of ss OptionalOut w = if w == left_out then Absent else sort_of_name (named ss w)
sort_of ss OptionalIn w = if w == left_out then Absent else sort_of_name (named ss w)
sort_of ss _ w = sort_of_name (named ss w)

abbrev pub sorts_of : Members → Statement → List Sort
sorts_of ss s = map (λ p. sort_of ss p.0 p.1) (zip (classes s.op (length s.args)) s.args)

abbrev pub shape_of : Sort → Shape
shape_of (Part s) = s
shape_of _ = Void

abbrev pub word_of : Sort → ℕ
word_of (Word w) = w
word_of _ = 0

-- ---- by class

abbrev pub is_list : Shape → Bool
is_list (Array n s) = true
is_list _ = false

-- a number, a list or a group
abbrev pub is_value : Shape → Bool
is_value (Number k) = true
is_value (Array n s) = true
is_value (Cluster ss) = true
is_value _ = false

abbrev pub is_mutex : Shape → Bool
is_mutex Mutex = true
is_mutex _ = false

abbrev pub is_absent : Sort → Bool
is_absent Absent = true
is_absent _ = false

-- the operand is of the class, in a program of so many clumps
abbrev pub is_of_class : ℕ → Class → Sort → Bool
is_of_class clumps NumberOut o = is_number (shape_of o)
is_of_class clumps NumberIn o = is_number (shape_of o)
is_of_class clumps AList o = is_list (shape_of o)
is_of_class clumps Text o = is_text (shape_of o)
is_of_class clumps Anything o = is_value (shape_of o)
is_of_class clumps AMutex o = is_mutex (shape_of o)
is_of_class clumps Immediate o = true
is_of_class clumps Clump o = nat_lt (word_of o) clumps
is_of_class clumps Offset o = true
is_of_class clumps OptionalOut o = is_absent o || is_number (shape_of o)
is_of_class clumps OptionalIn o = is_absent o || is_number (shape_of o)

-- ---- beside the others

-- a number, or a list of numbers
abbrev pub is_plain : Shape → Bool
is_plain s = is_number s || is_numbers s

-- both numbers, or both lists of numbers
abbrev pub are_alike : Shape → Shape → Bool
are_alike s t = (is_number s && is_number t) || (is_numbers s && is_numbers t)

-- the elements of a list
abbrev pub element_of : Shape → Shape
element_of (Array n s) = s
element_of s = Void

-- an element for the list, or a list that converts to it
abbrev pub goes_into : Shape → Shape → Bool
goes_into list s = convertible (element_of list) s || convertible list s

-- a number for a number, and for a list of numbers two of which one is a list
abbrev pub arithmetic : Shape → Shape → Shape → List Bool
arithmetic dest x y =
    is_plain dest
    ∷ (if is_number dest then is_number x else is_plain x)
    ∷ (if is_number dest then is_number y else (is_plain y && (is_numbers x || is_numbers y)))
    ∷ []

-- the same, or a number for two lists of numbers
abbrev pub comparison : Shape → Shape → Shape → List Bool
comparison dest x y =
    if is_number dest then true ∷ is_plain x ∷ are_alike x y ∷ [] else arithmetic dest x y

abbrev pub is_call : Option Call → Bool
is_call None = false
is_call (Some c) = true

abbrev pub is_group : Shape → Bool
is_group (Cluster ss) = true
is_group _ = false

-- where there is no such call, any cluster
abbrev pub is_cluster : Option Call → Shape → Bool
is_cluster None s = is_group s
is_cluster (Some c) s = is_cluster_of c s

-- properties up to a last one, and values
abbrev pub pairs_fit : ℕ → List Sort → List Bool
pairs_fit last [] = []
pairs_fit last (prop ∷ []) = nat_le (word_of prop) last ∷ []
pairs_fit last (prop ∷ value ∷ more) = nat_le (word_of prop) last ∷ true ∷ pairs_fit last more

-- what else is asked of the operands' shapes, from the first on; nothing of those that a list doesn't reach
abbrev pub asked : Op → (ℕ → Shape) → (ℕ → ℕ) → List Sort → List Bool
asked ops.Add s w os = arithmetic (s 0) (s 1) (s 2)
asked ops.Sub s w os = arithmetic (s 0) (s 1) (s 2)
asked ops.Mul s w os = arithmetic (s 0) (s 1) (s 2)
asked ops.Div s w os = arithmetic (s 0) (s 1) (s 2)
asked ops.Mod s w os = arithmetic (s 0) (s 1) (s 2)
asked ops.And s w os = arithmetic (s 0) (s 1) (s 2)
asked ops.Or s w os = arithmetic (s 0) (s 1) (s 2)
asked ops.Xor s w os = arithmetic (s 0) (s 1) (s 2)
asked ops.Cmp s w os = comparison (s 0) (s 1) (s 2)
asked ops.Neg s w os = is_plain (s 0) ∷ are_alike (s 0) (s 1) ∷ []
asked ops.Not s w os = is_plain (s 0) ∷ are_alike (s 0) (s 1) ∷ []
asked ops.Tst s w os = is_plain (s 0) ∷ are_alike (s 0) (s 1) ∷ []
asked ops.Brcmp s w os = true ∷ is_plain (s 1) ∷ are_alike (s 1) (s 2) ∷ []
asked ops.Index s w os = true ∷ convertible (s 0) (element_of (s 1)) ∷ []
asked ops.Replace s w os = true ∷ convertible (s 0) (s 1) ∷ true ∷ goes_into (s 1) (s 3) ∷ []
asked ops.Arrbuild s w os = true ∷ map (λ o. goes_into (s 0) (shape_of o)) (drop 1 os)
asked ops.Arrsubset s w os = true ∷ convertible (s 0) (s 1) ∷ []
asked ops.Arrinit s w os = true ∷ convertible (element_of (s 0)) (s 1) ∷ []
asked ops.Mov s w os = true ∷ convertible (s 0) (s 1) ∷ []
asked ops.Flatten s w os = true ∷ not (has_list (s 1)) ∷ []
asked ops.Unflatten s w os = true ∷ true ∷ true ∷ (not (has_list (s 3)) && convertible (s 0) (s 3)) ∷ []
asked ops.Syscall s w os = true ∷ is_cluster (call_of (w 0)) (s 1) ∷ []
asked ops.Setout s w os = is_plain (s 0) ∷ []
asked _ s w os = []

-- what is asked of the numbers of calls and properties
abbrev pub allowed : Op → (ℕ → ℕ) → List Sort → List Bool
allowed ops.Syscall w os = is_call (call_of (w 0)) ∷ []
allowed ops.Setin w os = true ∷ true ∷ nat_le (w 2) last_input ∷ []
allowed ops.Getin w os = true ∷ true ∷ nat_le (w 2) last_input ∷ []
allowed ops.Setout w os = true ∷ pairs_fit last_output (drop 1 os)
allowed ops.Getout w os = true ∷ true ∷ nat_le (w 2) last_output ∷ []
allowed _ w os = []

abbrev pub sort_at : List Sort → ℕ → Sort
sort_at os k = slice_index_or os k Unknown

-- ---- the whole

-- operand k, counted from 0, is of its class, and fits those before it
abbrev pub has_kind : ℕ → Op → List Sort → ℕ → Bool
has_kind clumps op os k =
    is_of_class clumps (slice_index_or (classes op (length os)) k Immediate) (sort_at os k)
    && slice_index_or (asked op (λ i. shape_of (sort_at os i)) (λ i. word_of (sort_at os i)) os) k true

abbrev pub is_allowed : Op → List Sort → ℕ → Bool
is_allowed op os k = slice_index_or (allowed op (λ i. word_of (sort_at os i)) os) k true

abbrev pub operand_fits : ℕ → Op → List Sort → ℕ → Bool
operand_fits clumps op os k = has_kind clumps op os k && is_allowed op os k

-- all operands of a statement, counted from 0, are of their classes and fit one another, in a program of so many clumps
pub record AreFit (ss : Members) (s : Statement) : Type 0 where
  pub clumps : ℕ
  pub fit : (k : ℕ) → k < length s.args → operand_fits clumps s.op (sorts_of ss s) k ≡ true

-- ---- destinations

-- nothing is stored in an operand of these
abbrev pub stores_nothing : Op → Bool
stores_nothing ops.Jmp = true
stores_nothing ops.Brcmp = true
stores_nothing ops.Brtst = true
stores_nothing ops.Stop = true
stores_nothing ops.Finclump = true
stores_nothing ops.Finclumpimmed = true
stores_nothing ops.Acquire = true
stores_nothing ops.Release = true
stores_nothing ops.Subret = true
stores_nothing ops.Setin = true
stores_nothing ops.Setout = true
stores_nothing ops.Wait = true
stores_nothing _ = false

-- a value is stored in operand k, counted from 0
abbrev pub is_destination : Op → ℕ → Bool
is_destination ops.Unflatten k = nat_le k 1
is_destination ops.Strtonum k = nat_le k 1
is_destination ops.Subcall k = k == 1
is_destination ops.Syscall k = k == 1
is_destination op k = not (stores_nothing op) && (k == 0)
