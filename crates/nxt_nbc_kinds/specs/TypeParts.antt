-- What types are made of.
use Rattle.std.specs.Prelude.{ℕ, ◌==◌, if◌then◌else◌, Option, Some, None}
use Rattle.nxt_model.specs.declared.nbc.NbcBase.{NbcBase}
use Rattle.nxt_model.specs.declared.nbc.NbcBase.TheVariants.{Struct}
use Rattle.nxt_model.specs.declared.nbc.NbcType.{NbcType}

-- the base of a type that is no array
abbrev pub single_base : Option NbcType → Option NbcBase
single_base None = None
single_base (Some s) = if s.arrays == 0 then Some s.base else None

abbrev pub struct_base : Option NbcBase → Option ℕ
struct_base (Some (Struct i)) = Some i
struct_base _ = None

-- the position of the struct that it is, if it is one
abbrev pub struct_position : Option NbcType → Option ℕ
struct_position s = struct_base (single_base s)
