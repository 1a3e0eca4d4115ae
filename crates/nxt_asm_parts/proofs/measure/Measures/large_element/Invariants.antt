use Rattle.std.proofs.Common.{◌≡◌, map, take}
use Rattle.nxt_types.specs.Shapes.{cluster_of}
use Rattle.nxt_model.specs.TextProgram.{shape_by, struct_shapes}
use Rattle.nxt_asm_parts.specs.Elements.{large_in}
use Rattle.nxt_asm_parts.proofs.measure.Measures.large_element.Given as goal

abbrev pub invariant-loop-of : goal.invariant-loop-of
invariant-loop-of l = l.large ≡ large_in (cluster_of (map (shape_by (struct_shapes l.self)) (take l.of-index l.types)))
