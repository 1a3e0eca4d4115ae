-- The names of NXTDefs.h, as the program has them.
use Rattle.std.specs.Prelude.{ℕ, ◌<◌, List, [], ◌∷◌, map, codes, slice_index_or, ⊤}
use Rattle.std.specs.Borrow.{Bor}
use Rattle.nxt_types.specs.declared.kind.Kind.TheVariants.{Ulong}
use Rattle.nxt_model.specs.declared.nbc.NbcBase.{NbcBase}
use Rattle.nxt_model.specs.declared.nbc.NbcBase.TheVariants as bases
use Rattle.nxt_model.specs.declared.nbc.NbcType.{NbcType}
use Rattle.nxt_model.specs.Nbc.Header.{Constant, a_struct, header_structs, of_kind}
use Rattle.nxt_model.specs.Nbc.Types.{Struct, StructMember}
use Rattle.nxt_nbc_names.specs.declared.header.HeaderStruct.{HeaderStruct as ProgramStruct}

-- a number's name, and the number
abbrev pub constant_seen : Bor (List ℕ) × ℕ → Constant
constant_seen c = (c.0.now, c.1)

-- ---- structs

abbrev pub header_member_seen : Bor (List ℕ) × NbcType → StructMember
header_member_seen m = record { name = m.0.now; type = m.1 }

abbrev pub header_struct_seen : ProgramStruct → Struct
header_struct_seen s = record { name = s.name.now; members = map header_member_seen s.members.now; line = 0 }

-- the last one at each position behind them
abbrev pub header_row : ℕ → Struct
header_row i = slice_index_or header_structs i (a_struct (codes "TKeepAlive") (of_kind Ulong (codes "Result") ∷ []))

-- a type that is no struct behind the header's
abbrev pub IsNearBase : NbcBase → Type 0
IsNearBase (bases.Struct i) = i < 17
IsNearBase b = ⊤

abbrev pub IsNear : NbcType → Type 0
IsNear t = IsNearBase t.base
