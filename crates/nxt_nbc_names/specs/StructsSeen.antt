-- The program's structs, as the definitions see them.
use Rattle.std.specs.Prelude.{◌≡◌, ℕ, List, map}
use Rattle.std.specs.Borrow.{Bor}
use Rattle.nxt_types.specs.declared.kind.Kind.{Kind}
use Rattle.nxt_model.specs.declared.nbc.NbcBase.{NbcBase}
use Rattle.nxt_model.specs.declared.nbc.NbcBase.TheVariants.{Number}
use Rattle.nxt_model.specs.Nbc.Types.{Struct, type_shapes}
use Rattle.nxt_nbc_names.specs.Extents.{extent_of}
use Rattle.nxt_nbc_names.specs.declared.structs.Struct.{Struct as ProgramStruct}

-- a type of numbers by its name
abbrev pub number_seen : Bor (List ℕ) × Kind → List ℕ × NbcBase
number_seen t = (t.0.now, Number t.1)

abbrev pub struct_seen : ProgramStruct → Struct
struct_seen s = record { name = s.name.now; members = s.members; line = s.line }

abbrev pub structs_seen : List ProgramStruct → List Struct
structs_seen ss = map struct_seen ss

-- each struct is held with the extent of its shape
abbrev pub AreMeasured : List ProgramStruct → Type 0
AreMeasured ss = map (λ s. s.extent) ss ≡ map extent_of (type_shapes (structs_seen ss))
