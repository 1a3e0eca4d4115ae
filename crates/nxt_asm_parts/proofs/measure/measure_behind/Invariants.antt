use Rattle.std.proofs.Common.{◌≡◌, map, take}
use Rattle.nxt_types.specs.Shapes.{cluster_of}
use Rattle.nxt_model.specs.TextProgram.{shape_by}
use Rattle.nxt_asm_parts.specs.Elements.{large_in}
use Rattle.nxt_asm_parts.specs.Measures.{measure_of}
use Rattle.nxt_asm_parts.specs.Elements.{large_in}
use Rattle.nxt_asm_parts.specs.MeasuresSeen.{members_from, shapes_seen}
use Rattle.nxt_asm_parts.proofs.measure.measure_behind.Given as goal

abbrev pub invariant-loop-of : goal.invariant-loop-of
invariant-loop-of l = record {
  whole : l.whole ≡ measure_of (cluster_of (map (shape_by (shapes_seen l.structs)) (take l.of-index l.types)));
  members : l.members ≡ members_from (shapes_seen l.structs) 1 (take l.of-index l.types);
  large : l.large ≡ large_in (cluster_of (map (shape_by (shapes_seen l.structs)) (take l.of-index l.types)));
}
