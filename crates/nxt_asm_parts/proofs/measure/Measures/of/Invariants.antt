use Rattle.std.proofs.Common.{◌≡◌, [], take}
use Rattle.nxt_asm_parts.specs.MeasuresSeen.{AreMeasured, structs_seen}
use Rattle.nxt_asm_parts.proofs.measure.Measures.of.Given as goal

abbrev pub invariant-loop-one : goal.invariant-loop-one
invariant-loop-one l = record {
  measured : AreMeasured [] l.measured.items;
  seen : structs_seen l.measured.items ≡ take l.one-index l.structs;
}
