-- The members before i are those of the fields.
use Rattle.std.proofs.Common.{◌≡◌, map, drop}
use Rattle.nxt_types.specs.Shapes.{members as members_of}
use Rattle.nxt_types.specs.Calls.{are_fields}
use Rattle.nxt_model.specs.TextProgram.{shape_by}
use Rattle.nxt_model.specs.Nbc.Types.{type_shapes}
use Rattle.nxt_nbc_names.specs.StructsSeen.{structs_seen}
use Rattle.nxt_nbc_kinds.proofs.types.are_fields.Given as goal

abbrev pub invariant-loop-i : goal.invariant-loop-i
invariant-loop-i l =
    are_fields l.fields (members_of (map (λ m. shape_by (type_shapes (structs_seen l.structs)) m.shape) l.members))
    ≡ are_fields (drop l.i l.fields) (members_of (map (λ m. shape_by (type_shapes (structs_seen l.structs)) m.shape) (drop l.i l.members)))
