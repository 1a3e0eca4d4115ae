-- What is still to be written of a table.
use Rattle.std.proofs.Common.{◌≡◌, ◌+◌, ◌*◌, drop, map}
use Rattle.nxt_types.specs.Shapes.{members}
use Rattle.nxt_model.specs.TextProgram.{shape_by}
use Rattle.nxt_asm_parts.specs.Places.{EntriesFit, entries_among, first_shapes, with_members}
use Rattle.nxt_asm_parts.proofs.table.+table.Given as goal

abbrev pub decreases-write_base : goal.decreases-write_base
decreases-write_base l = 3 * l.first + 1

abbrev pub decreases-write_members : goal.decreases-write_members
decreases-write_members l = 3 * l.first + 3

abbrev pub decreases-write_type : goal.decreases-write_type
decreases-write_type l = 3 * l.first + 2

abbrev pub invariant-write_members-loop-of : goal.invariant-write_members-loop-of
invariant-write_members-loop-of l = record {
  rest :
      with_members l.table (members (map (shape_by (first_shapes l.first l.structs)) (drop l.of-index l.types)))
      ≡ with_members l.fn.table (members (map (shape_by (first_shapes l.first l.structs)) l.types));
  fits : EntriesFit (entries_among (members (map (shape_by (first_shapes l.first l.structs)) (drop l.of-index l.types))) l.table.next);
}
