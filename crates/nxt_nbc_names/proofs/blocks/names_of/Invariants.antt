use Rattle.std.proofs.Common.{◌≡◌, take, map}
use Rattle.nxt_nbc_names.specs.BlocksSeen.{block_seen}
use Rattle.nxt_nbc_names.proofs.blocks.names_of.Given as goal

-- the names of the blocks so far
abbrev pub invariant-loop-block : goal.invariant-loop-block
invariant-loop-block l = l.names ≡ map (λ b. b.name) (map block_seen (take l.block-index l.blocks))
