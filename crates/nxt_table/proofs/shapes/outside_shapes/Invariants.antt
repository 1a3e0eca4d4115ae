-- The shapes from the entries on that are done.
use Rattle.std.proofs.Common.{◌≡◌, ◌≤◌, drop, length, map}
use Rattle.std.specs.Prelude.{reverse, slice_index}
use Rattle.nxt_types.specs.Shapes.{tree}
use Rattle.nxt_types.specs.Tables.{trees_of}
use Rattle.nxt_table.specs.Inside.Shaping.{shapes_from, outside_shapes}
use Rattle.nxt_table.proofs.shapes.outside_shapes.Given as goal

abbrev pub invariant-loop-left : goal.invariant-loop-left
invariant-loop-left l = record {
  within : l.left ≤ length l.placed;
  stack : map tree l.stack.items ≡ shapes_from (slice_index l.strides) l.left (drop l.left l.placed);
  shapes : trees_of (reverse l.shapes.items) ≡ outside_shapes (slice_index l.strides) l.left (drop l.left l.placed);
}

abbrev pub decreases-loop-left : goal.decreases-loop-left
decreases-loop-left l = l.left
