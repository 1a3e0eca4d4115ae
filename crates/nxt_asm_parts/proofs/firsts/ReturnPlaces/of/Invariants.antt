use Rattle.std.proofs.Common.{◌≡◌, length, take}
use Rattle.nxt_model.specs.TextProgram.{subroutines}
use Rattle.nxt_asm_parts.specs.Firsts.{before_from}
use Rattle.nxt_asm_parts.proofs.firsts.ReturnPlaces.of.Given as goal

abbrev pub invariant-loop-block : goal.invariant-loop-block
invariant-loop-block l = record {
  count : l.count ≡ length (subroutines (take l.block-index l.blocks));
  before : l.before ≡ before_from 0 (take l.block-index l.blocks);
}
