-- What the program's operands are seen as.
use Rattle.std.specs.Prelude.{List, map, Option, Some, None}
use Rattle.nxt_types.specs.Shapes.{Shape, Void}
use Rattle.nxt_types.specs.OperandRules as rules
use Rattle.nxt_types.specs.OperandRules.{Sort}
use Rattle.nxt_model.specs.TextProgram.{shape_by}
use Rattle.nxt_model.specs.declared.nbc.NbcType.{NbcType}
use Rattle.nxt_model.specs.Nbc.Types.{Struct, type_shapes}
use Rattle.nxt_model.specs.Nbc.Structs.{Types}
use Rattle.nxt_nbc_kinds.specs.declared.operand.Operand.{Operand}
use Rattle.nxt_nbc_kinds.specs.declared.operand.Operand.TheVariants as operands

-- the shape of a type among structs, or the void where there is no type
abbrev pub shape_among : List Struct → Option NbcType → Shape
shape_among ds None = Void
shape_among ds (Some s) = shape_by (type_shapes ds) s

abbrev pub shape_seen : Types → Option NbcType → Shape
shape_seen t s = shape_among t.structs s

abbrev pub operand_seen : Types → Operand → Sort
operand_seen t (operands.Part s) = rules.Part (shape_seen t (Some s))
operand_seen t (operands.Word n) = rules.Word n
operand_seen t operands.Absent = rules.Absent
operand_seen t operands.Unknown = rules.Unknown

abbrev pub operands_seen : Types → List Operand → List Sort
operands_seen t os = map (operand_seen t) os
