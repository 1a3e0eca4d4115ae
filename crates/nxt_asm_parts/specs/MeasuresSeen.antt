-- The measures of structs, as the definitions see them.
use Rattle.std.specs.Prelude.{◌≡◌, ℕ, ◌+◌, List, [], ◌∷◌, ◌++◌, map, take, sum_by, ⊤}
use Rattle.nxt_types.specs.Shapes.{Shape}
use Rattle.nxt_types.specs.Names.{size}
use Rattle.nxt_model.specs.Assembled.{entries_before, shapes_in}
use Rattle.nxt_model.specs.SystemCalls.{field_shape}
use Rattle.nxt_model.specs.TextProgram.{shape_by, struct_shape, struct_shapes}
use Rattle.nxt_model.specs.declared.nbc.NbcType.{NbcType}
use Rattle.nxt_model.specs.declared.nbc.NbcStruct.{NbcStruct}
use Rattle.nxt_asm_parts.specs.Elements.{large_in}
use Rattle.nxt_asm_parts.specs.Measures.{held, measure_of}
use Rattle.nxt_asm_parts.specs.declared.measure.MemberMeasure.{MemberMeasure}
use Rattle.nxt_asm_parts.specs.declared.measure.StructMeasure.{StructMeasure}

-- ---- the structs that are measured

abbrev pub struct_seen : StructMeasure → NbcStruct
struct_seen m = record { members = map (λ k. k.shape) m.members }

abbrev pub structs_seen : List StructMeasure → List NbcStruct
structs_seen ms = map struct_seen ms

abbrev pub shapes_seen : List StructMeasure → List Shape
shapes_seen ms = struct_shapes (structs_seen ms)

-- ---- their measures

-- members of these types, with n entries before the first
abbrev pub members_from : List Shape → ℕ → List NbcType → List MemberMeasure
members_from ss n [] = []
members_from ss n (t ∷ ts) = record { shape = t; before = held n } ∷ members_from ss (n + size (shape_by ss t)) ts

-- what a struct takes behind those that have these shapes
abbrev pub struct_measure : List Shape → NbcStruct → StructMeasure
struct_measure ss s =
    record { whole = measure_of (struct_shape ss s); members = members_from ss 1 s.members; large = large_in (struct_shape ss s) }

-- each struct is held with what it takes behind those before it
abbrev pub AreMeasured : List Shape → List StructMeasure → Type 0
AreMeasured before [] = ⊤
AreMeasured before (m ∷ more) =
    (m ≡ struct_measure before (struct_seen m)) × AreMeasured (before ++ struct_shape before (struct_seen m) ∷ []) more

-- a step from a shape to its member k, where the structs have these shapes
pub record IsStep (ss : List Shape) (k : ℕ) (s : Shape) (m : MemberMeasure) : Type 0 where
  pub before : m.before ≡ held (1 + sum_by size (take k (shapes_in s)))
  pub rest : (ks : List ℕ) → entries_before ks (shape_by ss m.shape) ≡ entries_before ks (field_shape k s)
