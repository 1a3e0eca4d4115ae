use Rattle.std.proofs.Common.{◌≡◌, map, take}
use Rattle.std.specs.List.{enumerate_from}
use Rattle.nxt_model.specs.Nbc.Text.{program_block}
use Rattle.nxt_nbc_names.specs.BlocksSeen.{block_seen}
use Rattle.nxt_nbc_names.specs.SourceSeen.{source_seen}
use Rattle.nxt_nbc_program.proofs.program.blocks_of.Given as goal

-- the blocks so far
abbrev pub invariant-loop-number : goal.invariant-loop-number
invariant-loop-number l =
    l.blocks ≡ map (program_block (source_seen l.source)) (enumerate_from 0 (map block_seen (take l.number l.block-items)))
