-- The blocks before this one begin at the words so far.
use Rattle.std.proofs.Common.{◌≡◌, take}
use Rattle.std.specs.Prelude.{sum_by}
use Rattle.nxt_model.specs.Assembled.{block_words}
use Rattle.nxt_asm_parts.specs.Starts.{blocks_starts}
use Rattle.nxt_asm_parts.proofs.starts.Starts.of.Given as goal

abbrev pub invariant-loop-block : goal.invariant-loop-block
invariant-loop-block l = record {
  word : l.here ≡ sum_by block_words (take l.block-index l.blocks);
  found : l.all ≡ blocks_starts 0 (take l.block-index l.blocks);
}
