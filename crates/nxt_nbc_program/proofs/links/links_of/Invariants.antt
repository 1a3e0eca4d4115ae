use Rattle.std.proofs.Common.{◌≡◌, map, take}
use Rattle.std.specs.List.{enumerate_from}
use Rattle.nxt_nbc_names.specs.BlocksSeen.{block_seen}
use Rattle.nxt_nbc_names.specs.SourceSeen.{source_seen}
use Rattle.nxt_nbc_program.specs.Links.{links}
use Rattle.nxt_nbc_program.specs.LinksSeen.{links_seen}
use Rattle.nxt_nbc_program.proofs.links.links_of.Given as goal

-- those of the blocks so far
abbrev pub invariant-loop-number : goal.invariant-loop-number
invariant-loop-number l =
    map links_seen l.links.items ≡ map (links (source_seen l.source)) (enumerate_from 0 (map block_seen (take l.number l.block-items)))
