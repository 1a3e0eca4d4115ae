use Rattle.std.proofs.Common.{◌≡◌, ◌+◌, ◌*◌, flat_map, take}
use Rattle.nxt_model.specs.TextProgram.{shape_by}
use Rattle.nxt_asm_parts.specs.Lists.{with_arrays, zero_arrays}
use Rattle.nxt_asm_parts.specs.Places.{first_shapes}
use Rattle.nxt_asm_parts.proofs.lists.+empty.Given as goal

abbrev pub decreases-write_empty_base : goal.decreases-write_empty_base
decreases-write_empty_base l = 3 * l.first + 1

abbrev pub decreases-write_empty_members : goal.decreases-write_empty_members
decreases-write_empty_members l = 3 * l.first + 3

abbrev pub decreases-write_empty : goal.decreases-write_empty
decreases-write_empty l = 3 * l.first + 2

abbrev pub invariant-write_empty_members-loop-of : goal.invariant-write_empty_members-loop-of
invariant-write_empty_members-loop-of l =
    l.lists ≡ with_arrays l.fn.lists (flat_map (λ t. zero_arrays (shape_by (first_shapes l.first l.structs) t)) (take l.of-index l.types))
