use Rattle.std.proofs.Common.{◌≡◌, map, take}
use Rattle.nxt_types.specs.Shapes.{cluster_of}
use Rattle.nxt_model.specs.TextProgram.{shape_by, struct_shapes}
use Rattle.nxt_asm_parts.specs.Measures.{measure_of}
use Rattle.nxt_asm_parts.proofs.table.measure_together.Given as goal

abbrev pub invariant-loop-of : goal.invariant-loop-of
invariant-loop-of l = l.whole ≡ measure_of (cluster_of (map (shape_by (struct_shapes l.measures)) (take l.of-index l.types)))
