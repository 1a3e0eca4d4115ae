use Rattle.std.proofs.Common.{◌≡◌, ◌+◌, ◌*◌, flat_map, take}
use Rattle.nxt_model.specs.TextProgram.{shape_by}
use Rattle.nxt_asm_parts.specs.Defaults.{with_leaves, zero_leaves}
use Rattle.nxt_asm_parts.specs.Places.{first_shapes}
use Rattle.nxt_asm_parts.proofs.defaults.+defaults.Given as goal

abbrev pub decreases-write_base : goal.decreases-write_base
decreases-write_base l = 3 * l.first + 1

abbrev pub decreases-write_members : goal.decreases-write_members
decreases-write_members l = 3 * l.first + 3

abbrev pub decreases-write_type : goal.decreases-write_type
decreases-write_type l = 3 * l.first + 2

abbrev pub invariant-write_members-loop-of : goal.invariant-write_members-loop-of
invariant-write_members-loop-of l =
    l.defaults ≡ with_leaves l.fn.defaults (flat_map (λ t. zero_leaves (shape_by (first_shapes l.first l.structs) t)) (take l.of-index l.types))
