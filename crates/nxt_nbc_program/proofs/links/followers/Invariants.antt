use Rattle.std.proofs.Common.{◌≡◌, map, take}
use Rattle.nxt_nbc_names.specs.BlocksSeen.{block_seen}
use Rattle.nxt_nbc_names.specs.SourceSeen.{source_seen}
use Rattle.nxt_nbc_program.specs.Links.{follower_of}
use Rattle.nxt_nbc_program.specs.LinksSeen.{follower_seen}
use Rattle.nxt_nbc_program.proofs.links.followers.Given as goal

-- those of the blocks so far
abbrev pub invariant-loop-block : goal.invariant-loop-block
invariant-loop-block l =
    map follower_seen l.found.items ≡ map (follower_of (source_seen l.source)) (map block_seen (take l.block-index l.blocks))
