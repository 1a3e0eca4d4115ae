-- The types of a text's variables.
use Rattle.std.specs.Prelude.{ℕ, ◌+◌, Bool, ◌&&◌, if◌then◌else◌, ◌==◌, nat_lt, max, List, [], ◌∷◌, map, find, codes, bytes_eq, slice_get, Option, Some, None, is_some, option_map, option_and_then, unwrap_or}
use Rattle.std.specs.List.{position}
use Rattle.nxt_types.specs.Shapes.{Shape, Void, Number, Array, Cluster, Mutex, Members, no_members, member}
use Rattle.nxt_types.specs.declared.kind.Kind.TheVariants.{Ubyte, Sbyte, Uword, Sword, Ulong, Slong}
use Rattle.nxt_model.specs.declared.nbc.NbcBase.{NbcBase}
use Rattle.nxt_model.specs.declared.nbc.NbcBase.TheVariants as bases
use Rattle.nxt_model.specs.declared.nbc.NbcType.{NbcType}
use Rattle.nxt_model.specs.declared.nbc.NbcStruct.{NbcStruct}
use Rattle.nxt_model.specs.TextProgram.{shape_by, struct_shapes}
use Rattle.nxt_model.specs.Nbc.Forms.{TypeName}

-- ---- shapes

-- how many arrays and groups enclose the deepest part
abbrev mutual
  pub depth_of : Shape → ℕ
  depth_of Void = 0
  depth_of (Number k) = 0
  depth_of (Array stride s) = depth_of s + 1
  depth_of (Cluster ss) = depth_among ss + 1
  depth_of Mutex = 0

  pub depth_among : Members → ℕ
  depth_among no_members = 0
  depth_among (member s ss) = max (depth_of s) (depth_among ss)

-- ---- structs

-- a member's name and its type
pub record StructMember : Type 0 where
  pub name : List ℕ
  pub type : NbcType

-- a struct's name, its members, and the line from which on it is a type
pub record Struct : Type 0 where
  pub name : List ℕ
  pub members : List StructMember
  pub line : ℕ

-- without its names
abbrev pub plain_struct : Struct → NbcStruct
plain_struct s = record { members = map (λ m. m.type) s.members }

-- the shapes of structs in the order of the text
abbrev pub type_shapes : List Struct → List Shape
type_shapes types = struct_shapes (map plain_struct types)

-- the shape of a type among structs
abbrev pub shape_in : List Struct → NbcType → Shape
shape_in types t = shape_by (type_shapes types) t

-- ---- names of types

abbrev pub plain_types : List (List ℕ × NbcBase)
plain_types =
    (codes "byte", bases.Number Ubyte) ∷ (codes "ubyte", bases.Number Ubyte) ∷ (codes "db", bases.Number Ubyte)
    ∷ (codes "sbyte", bases.Number Sbyte) ∷ (codes "word", bases.Number Uword) ∷ (codes "uword", bases.Number Uword)
    ∷ (codes "dw", bases.Number Uword) ∷ (codes "sword", bases.Number Sword) ∷ (codes "dword", bases.Number Ulong)
    ∷ (codes "long", bases.Number Ulong) ∷ (codes "ulong", bases.Number Ulong) ∷ (codes "dd", bases.Number Ulong)
    ∷ (codes "sdword", bases.Number Slong) ∷ (codes "slong", bases.Number Slong) ∷ (codes "mutex", bases.Mutex) ∷ []

abbrev pub plain_type : List ℕ → Option NbcBase
plain_type name = option_map (λ p. p.1) (find (λ p. bytes_eq p.0 name) plain_types)

-- a struct of this name that is a type before the line
abbrev pub is_before : ℕ → List ℕ → Struct → Bool
is_before line name s = nat_lt s.line line && bytes_eq s.name name

abbrev pub one_of : Option NbcBase → Option ℕ → Option NbcBase
one_of (Some b) at = Some b
one_of None at = option_map bases.Struct at

-- what a type's name stands for at a line: a plain type, or else the first struct of the name that is declared before
abbrev pub base_at : List Struct → ℕ → List ℕ → Option NbcBase
base_at types line name = one_of (plain_type name) (position (is_before line name) types)

abbrev pub is_type_at : List Struct → ℕ → List ℕ → Bool
is_type_at types line name = is_some (base_at types line name)

-- the type at a line; a name that is no type counts as a number
abbrev pub type_at : List Struct → ℕ → TypeName → NbcType
type_at types line t = record { base = unwrap_or (base_at types line t.name) (bases.Number Ubyte); arrays = t.arrays }

abbrev pub shape_at : List Struct → ℕ → TypeName → Shape
shape_at types line t = shape_in types (type_at types line t)

-- ---- members

-- the struct that a type is, where it is one
abbrev pub struct_of_base : List Struct → NbcBase → Option Struct
struct_of_base types (bases.Struct i) = slice_get types i
struct_of_base types b = None

abbrev pub struct_of : List Struct → NbcType → Option Struct
struct_of types t = if t.arrays == 0 then struct_of_base types t.base else None

-- the position of a struct's member of this name, and its type
abbrev pub member_in : List ℕ → Struct → Option (ℕ × NbcType)
member_in name s =
    option_and_then (λ k. option_map (λ m. (k, m.type)) (slice_get s.members k)) (position (λ m. bytes_eq m.name name) s.members)

abbrev pub member_of_type : List Struct → NbcType → List ℕ → Option (ℕ × NbcType)
member_of_type types t name = option_and_then (member_in name) (struct_of types t)

-- positions of members, and the type of the last of them
abbrev pub Found : Type 0
Found = List ℕ × NbcType

abbrev pub below : ℕ → Found → Found
below k f = (k ∷ f.0, f.1)

-- where names of members lead from a type
abbrev pub member_path : List Struct → NbcType → List (List ℕ) → Option Found
member_path types t [] = Some ([], t)
member_path types t (n ∷ ns) = option_and_then (λ m. option_map (below m.0) (member_path types m.1 ns)) (member_of_type types t n)
