use Rattle.std.proofs.Common.{◌≡◌, map, take}
use Rattle.nxt_types.specs.Shapes.{members as members_of}
use Rattle.nxt_model.specs.Nbc.Types.{type_shapes}
use Rattle.nxt_model.specs.TextProgram.{shape_by}
use Rattle.nxt_nbc_names.specs.Extents.{extent_of_all}
use Rattle.nxt_nbc_names.specs.StructsSeen.{structs_seen}
use Rattle.nxt_nbc_names.proofs.structs.extent_of_members.Given as goal

abbrev pub invariant-loop-member : goal.invariant-loop-member
invariant-loop-member l =
    l.extent ≡ extent_of_all (members_of (map (λ m. shape_by (type_shapes (structs_seen l.structs)) m.shape) (take l.member-index l.members)))
