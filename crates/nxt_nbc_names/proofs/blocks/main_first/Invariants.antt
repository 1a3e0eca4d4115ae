use Rattle.std.proofs.Common.{◌≡◌, ◌++◌, take, map, not}
use Rattle.std.specs.Prelude.{filter}
use Rattle.nxt_model.specs.Nbc.Text.{is_main}
use Rattle.nxt_nbc_names.specs.BlocksSeen.{block_seen}
use Rattle.nxt_nbc_names.proofs.blocks.main_first.Given as goal

-- those of the blocks so far that are main
abbrev pub invariant-loop-block : goal.invariant-loop-block
invariant-loop-block l = map block_seen l.ordered.items ≡ filter is_main (map block_seen (take l.block-index l.blocks))

-- main, and those of the blocks so far that are not
abbrev pub invariant-loop-block-2 : goal.invariant-loop-block-2
invariant-loop-block-2 l =
    map block_seen l.ordered.items
    ≡ filter is_main (map block_seen l.blocks) ++ filter (λ b. not (is_main b)) (map block_seen (take l.block-index l.blocks))
