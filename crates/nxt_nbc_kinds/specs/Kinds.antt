-- The kinds of types that convert.
use Rattle.std.specs.Prelude.{ℕ, ◌==◌, ◌&&◌, ◌++◌, Bool, true, false, if◌then◌else◌, List, [], ◌∷◌, slice_index_or, Option, Some, None, option_map}
use Rattle.std.specs.List.{list_any, position_or_len}
use Rattle.nxt_model.specs.declared.nbc.NbcBase.{NbcBase}
use Rattle.nxt_model.specs.declared.nbc.NbcBase.TheVariants as bases
use Rattle.nxt_model.specs.declared.nbc.NbcType.{NbcType}
use Rattle.nxt_nbc_kinds.specs.declared.conversions.BaseKind.{BaseKind}
use Rattle.nxt_nbc_kinds.specs.declared.conversions.BaseKind.TheVariants as kinds
use Rattle.nxt_nbc_kinds.specs.declared.conversions.TypeKind.{TypeKind}

-- ---- of types, where structs are of these kinds

abbrev pub base_kind : List (Option ℕ) → NbcBase → Option BaseKind
base_kind structs (bases.Number k) = Some kinds.Number
base_kind structs bases.Mutex = None
base_kind structs (bases.Struct i) = option_map kinds.Struct (slice_index_or structs i None)

abbrev pub type_kind : List (Option ℕ) → NbcType → Option TypeKind
type_kind structs t = option_map (λ b. record { base = b; arrays = t.arrays }) (base_kind structs t.base)

abbrev pub in_front : Option TypeKind → Option (List TypeKind) → Option (List TypeKind)
in_front (Some k) (Some ks) = Some (k ∷ ks)
in_front _ _ = None

-- those of types that all have one
abbrev pub kinds_of : List (Option ℕ) → List NbcType → Option (List TypeKind)
kinds_of structs [] = Some []
kinds_of structs (t ∷ ts) = in_front (type_kind structs t) (kinds_of structs ts)

-- ---- alike

abbrev pub same_base : BaseKind → BaseKind → Bool
same_base kinds.Number kinds.Number = true
same_base (kinds.Struct a) (kinds.Struct b) = a == b
same_base _ _ = false

abbrev pub same_kind : TypeKind → TypeKind → Bool
same_kind k l = same_base k.base l.base && k.arrays == l.arrays

-- types of one kind convert to one another
abbrev pub are_of_one_kind : Option TypeKind → Option TypeKind → Bool
are_of_one_kind (Some k) (Some l) = same_kind k l
are_of_one_kind _ _ = false

abbrev pub same_members : List TypeKind → List TypeKind → Bool
same_members [] [] = true
same_members (k ∷ ks) (l ∷ ls) = same_kind k l && same_members ks ls
same_members _ _ = false

-- ---- of structs, by those of their members

-- the number of a struct's kind among those that are known, or the next
abbrev pub number_of : List (List TypeKind) → Option (List TypeKind) → Option ℕ
number_of known None = None
number_of known (Some ms) = Some (position_or_len (same_members ms) known)

-- those that are known then
abbrev pub known_with : List (List TypeKind) → Option (List TypeKind) → List (List TypeKind)
known_with known None = known
known_with known (Some ms) = if list_any (same_members ms) known then known else known ++ ms ∷ []
