use Rattle.std.proofs.Common.{drop, map}
use Rattle.nxt_model.specs.Nbc.NbcRules.{is_taken, label_space}
use Rattle.nxt_nbc_names.specs.BlocksSeen.{block_seen}
use Rattle.nxt_nbc_names.specs.SourceSeen.{source_seen}
use Rattle.nxt_nbc.proofs.SpaceLoops.{Tell}
use Rattle.nxt_nbc.proofs.spaces.label_spaces.Given as goal

-- the blocks so far, and those that are left
abbrev pub invariant-loop-block : goal.invariant-loop-block
invariant-loop-block l =
    Tell (is_taken (source_seen l.source)) l.declared.twice l.declared.count
    (map label_space (map block_seen (drop l.block-index l.blocks))) (map label_space (map block_seen l.blocks))
