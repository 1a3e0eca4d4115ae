-- Defaults, written one leaf after another.
use Rattle.std.specs.Prelude.{◌≡◌, ℕ, ◌+◌, ◌≤◌, ℤ, pos, if◌then◌else◌, List, [], ◌∷◌, ◌++◌, filter, length, ⊤}
use Rattle.nxt_types.specs.Shapes.{Shape, Number}
use Rattle.nxt_types.specs.declared.kind.Kind.TheVariants.{Ubyte, Slong}
use Rattle.nxt_model.specs.Values.{Num, zero_of}
use Rattle.nxt_model.specs.TextProgram.{Variable, shape_by, starts_as, struct_shapes, text_shape, text_value}
use Rattle.nxt_model.specs.declared.nbc.NbcBase.{NbcBase}
use Rattle.nxt_model.specs.declared.nbc.NbcBase.TheVariants as bases
use Rattle.nxt_model.specs.declared.nbc.NbcBlock.{NbcBlock}
use Rattle.nxt_model.specs.declared.nbc.NbcStart.TheVariants as starts
use Rattle.nxt_model.specs.declared.nbc.NbcStart.{NbcStart}
use Rattle.nxt_model.specs.declared.nbc.NbcStruct.{NbcStruct}
use Rattle.nxt_model.specs.declared.nbc.NbcType.{NbcType}
use Rattle.nxt_model.specs.declared.nbc.NbcVar.{NbcVar}
use Rattle.nxt_asm_parts.specs.AssembledParts.{Valued, defaults_from, is_array, leaves_in}
use Rattle.nxt_asm_parts.specs.declared.defaults.DefaultsSoFar.{DefaultsSoFar}

-- ---- starts

abbrev pub IsNumbers : NbcBase → Type 0
IsNumbers (bases.Number k) = ⊤
IsNumbers _ = ⊥

-- a start has the form of its type: zeros, a number, a list of numbers, or a text
abbrev pub StartFits : NbcType → NbcStart → Type 0
StartFits t starts.Zero = ⊤
StartFits t (starts.Num z) = (t.arrays ≡ 0) × IsNumbers t.base
StartFits t (starts.List zs) = (t.arrays ≡ 1) × IsNumbers t.base
StartFits t (starts.Text bytes) = (t.arrays ≡ 1) × (t.base ≡ bases.Number Ubyte)

-- ---- leaves

-- the leaves of a shape, with zeros and empty lists
abbrev pub zero_leaves : Shape → List Valued
zero_leaves s = leaves_in s (zero_of s)

-- those of a declared variable
abbrev pub var_leaves : Variable → List Valued
var_leaves v = leaves_in v.shape (starts_as v.shape v.start)

abbrev pub variable_of : List NbcStruct → NbcVar → Variable
variable_of structs v = record { shape = shape_by (struct_shapes structs) v.shape; start = v.start }

-- a subroutine's return variable
abbrev pub return_leaves : NbcBlock → List Valued
return_leaves b = if b.subroutine then (Number Ubyte, Num (pos 0)) ∷ [] else []

abbrev pub constant_leaves : ℤ → List Valued
constant_leaves z = (Number Slong, Num z) ∷ []

abbrev pub text_leaves : List ℕ → List Valued
text_leaves bytes = (text_shape, text_value bytes) ∷ []

-- ---- what is written

abbrev pub array_count : List Valued → ℕ
array_count ls = length (filter is_array ls)

-- the defaults with those of more leaves
abbrev pub with_leaves : DefaultsSoFar → List Valued → DefaultsSoFar
with_leaves d ls = record { bytes = d.bytes ++ defaults_from d.row ls; row = d.row + array_count ls }

-- the numbers of the leaves' rows have 16 bits
abbrev pub RowsFit : DefaultsSoFar → List Valued → Type 0
RowsFit d ls = d.row + array_count ls ≤ 65536
