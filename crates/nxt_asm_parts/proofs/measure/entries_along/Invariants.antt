use Rattle.std.proofs.Common.{◌≡◌, ◌+◌, drop, map, nat_abs}
use Rattle.nxt_model.specs.Assembled.{entries_before}
use Rattle.nxt_model.specs.TextProgram.{shape_by}
use Rattle.nxt_asm_parts.specs.Measures.{held}
use Rattle.nxt_asm_parts.specs.MeasuresSeen.{shapes_seen}
use Rattle.nxt_asm_parts.proofs.measure.entries_along.Given as goal

-- the entries so far and those of the positions that are left
abbrev pub invariant-loop-position : goal.invariant-loop-position
invariant-loop-position l = record {
  known :
      held (l.entries + entries_before (map nat_abs (drop l.position-index l.path)) (shape_by (shapes_seen l.structs) l.reached))
      ≡ held (entries_before (map nat_abs l.path) (shape_by (shapes_seen l.structs) l.fn.of));
  small : l.entries ≡ held l.entries;
}
